-- What a call on an allot finds, and what it keeps.
use Rattle.std.specs.Prelude.{◌≡◌, ℕ, ◌+◌, ◌≤◌, Option, None}
use Rattle.page_tables.specs.declared.tables.PageTables.{PageTables}
use Rattle.page_tables.specs.Standing.{slot_count}
use Rattle.page_tables.specs.Held.{frames_of}

-- so many frames are out, at least those that the tables hold, and the allot tells no number of
-- frames that it may still grant
pub record IsLent (tables : PageTables) (out : ℕ) (grants : Option ℕ) : Type 0 where
  pub lent : frames_of tables ≤ out
  pub untold : grants ≡ None

-- the frames out and those that the tables hold moved alike, and the allot tells no number; the
-- slots are as many, and what the snapshot has of the directory is as it was
pub record StaysLent (old new : PageTables) (before after : ℕ) (grants : Option ℕ) : Type 0 where
  pub held : after + frames_of old ≡ before + frames_of new
  pub untold : grants ≡ None
  pub slots : slot_count new ≡ slot_count old
  pub snapshot : new.snapshot ≡ old.snapshot
