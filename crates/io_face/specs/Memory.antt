-- Sources and sinks in memory, as their callers see them.
use Rattle.std.specs.Prelude.{◌≡◌, ◌⊎◌, ℕ, ◌<◌, List, [], ◌∷◌, ◌++◌, length, drop, min, max, ◌≤◌, Option, None, Some, IfSome, IsSomeAnd, unwrap_or, reverse, zero, suc, ◌-◌}
use Rattle.std.specs.declared.string.String.{String}
use Rattle.std.specs.declared.vec.Vec.{Vec}
use Rattle.std.specs.String.{string_bytes}
use Rattle.std.specs.Ordering.{nat_cmp}
use Rattle.std.specs.Cmp.Lexicographic.{slice_cmp}
use Rattle.std.specs.FinMap.{find}
use Rattle.io_face.specs.Calls.{CallLog, IsDue, after_call, after_fault}

-- the bytes that remain, the greatest sizes of the reads to come, how many bytes the memory under
-- them can hold, and the calls
pub record SourceState : Type 0 where
  pub left : List ℕ
  pub cuts : List ℕ
  pub room : ℕ
  pub calls : CallLog

-- how many bytes a read places in so much room where so many are left: a cut of 0 counts as 1
abbrev pub read_size : List ℕ → ℕ → ℕ → ℕ
read_size [] room left = min room left
read_size (cut ∷ cuts) room left = min (min room (max cut 1)) left

-- the source after a read that placed so many bytes
abbrev pub after_read : SourceState → ℕ → SourceState
after_read old count = record {
  left = drop count old.left;
  cuts = drop 1 old.cuts;
  room = old.room;
  calls = after_call old.calls;
}

-- the source after a read that failed
abbrev pub after_failed_read : SourceState → SourceState
after_failed_read old = record old { calls = after_fault (after_call old.calls) }

-- what was written, how many bytes may be written in all, and the calls
pub record SinkState : Type 0 where
  pub written : List ℕ
  pub room : ℕ
  pub calls : CallLog

-- the sink after a write that took the piece
abbrev pub after_write : SinkState → List ℕ → SinkState
after_write old piece = record {
  written = old.written ++ piece;
  room = old.room;
  calls = after_call old.calls;
}

-- the sink after a write that failed
abbrev pub after_failed_write : SinkState → SinkState
after_failed_write old = record old { calls = after_fault (after_call old.calls) }

-- the sink before anything was written, with no write that is to fail
abbrev pub empty_record : ℕ → SinkState
empty_record room = record {
  written = [];
  room = room;
  calls = record { fails = []; made = 0; faults = 0 };
}

-- the files, each a name and its bytes, the newest first; how many more may be created and
-- published; how many bytes the buffer of loads can hold, where it is in the folder; how many bytes
-- a created file can hold; and the calls
pub record Shelf : Type 0 where
  pub entries : List (List ℕ × List ℕ)
  pub creates : ℕ
  pub publishes : ℕ
  pub buffer : Option ℕ
  pub room : ℕ
  pub calls : CallLog

-- the bytes of the newest file of this name
abbrev pub text_of : List (List ℕ × List ℕ) → List ℕ → Option (List ℕ)
text_of entries name = find (slice_cmp nat_cmp) name entries

-- the buffer is out, or it can't hold the text that was found
abbrev pub IsTooSmall : Option ℕ → Option (List ℕ) → Type 0
IsTooSmall None found = Unit {0}
IsTooSmall (Some size) found = IsSomeAnd found (λ text. size < length text)

-- a load fails: its number is due, the buffer is out, or it is too small for the file
abbrev pub IsLoadRefused : Shelf → List ℕ → Type 0
IsLoadRefused shelf name = IsDue shelf.calls ⊎ IsTooSmall shelf.buffer (text_of shelf.entries name)

-- a create fails: its number is due, the name is too long, or no more files may be created
abbrev pub IsCreateRefused : Shelf → List ℕ → Type 0
IsCreateRefused shelf name = IsDue shelf.calls ⊎ (64 < length name) ⊎ (shelf.creates ≡ 0)

-- a publish fails: its number is due, the name is too long, or no more files may be published
abbrev pub IsPublishRefused : Shelf → List ℕ → Type 0
IsPublishRefused shelf name = IsDue shelf.calls ⊎ (64 < length name) ⊎ (shelf.publishes ≡ 0)

-- the folder after a call that failed
abbrev pub after_refusal : Shelf → Shelf
after_refusal old = record old { calls = after_fault (after_call old.calls) }

-- the buffer that stays in the folder: none where a file was found
abbrev pub buffer_after : Option ℕ → Option (List ℕ) → Option ℕ
buffer_after buffer None = buffer
buffer_after buffer (Some text) = None

-- the folder after a load that succeeded
abbrev pub after_load : Shelf → List ℕ → Shelf
after_load old name = record old {
  buffer = buffer_after old.buffer (text_of old.entries name);
  calls = after_call old.calls;
}

-- a file that was just loaded into the buffer: no read of it is cut short or is to fail, none was
-- made, and it has all the room that the buffer had
pub record IsLoaded (buffer : Option ℕ) (input : SourceState) : Type 0 where
  pub cuts : input.cuts ≡ []
  pub calls : input.calls ≡ record { fails = []; made = 0; faults = 0 }
  pub room : IfSome buffer (λ size. size ≤ input.room)

-- the folder after a create that succeeded
abbrev pub after_create : Shelf → Shelf
after_create old = record old { creates = old.creates - 1; calls = after_call old.calls }

-- the folder after a publish that succeeded
abbrev pub after_publish : Shelf → List ℕ → List ℕ → Shelf
after_publish old name text = record old {
  entries = (name, text) ∷ old.entries;
  publishes = old.publishes - 1;
  calls = after_call old.calls;
}

-- the calls of a folder that took back a file with so many faults
abbrev pub after_return : CallLog → ℕ → CallLog
after_return calls zero = calls
after_return calls (suc faults) = after_fault calls

-- the folder after a read file was closed, whose memory becomes the buffer where that was out
abbrev pub after_close : Shelf → SourceState → Shelf
after_close old input = record old {
  buffer = Some (unwrap_or old.buffer input.room);
  calls = after_return old.calls input.calls.faults;
}

-- the folder after a file was abandoned
abbrev pub after_abandon : Shelf → SinkState → Shelf
after_abandon old out = record old { calls = after_return old.calls out.calls.faults }

-- the length of the longest file, and at least this
abbrev pub longest : ℕ → List (List ℕ × List ℕ) → ℕ
longest least [] = least
longest least (entry ∷ entries) = max (length entry.1) (longest least entries)

-- a folder that was just made of these files, the last of them first
abbrev pub opened : List (List ℕ × List ℕ) → ℕ → List ℕ → Shelf
opened files room fails = record {
  entries = reverse files;
  creates = 32;
  publishes = 32;
  buffer = Some (longest room (reverse files));
  room = room;
  calls = record { fails = fails; made = 0; faults = 0 };
}

-- a name and its file, as lists of bytes
abbrev pub file_entry : {A : Type 0} → String A × Vec ℕ A → List ℕ × List ℕ
file_entry file = (string_bytes file.0, file.1.items)
