-- A cell that nobody has is in order, and stands for the empty account.
use Rattle.std.proofs.Common.{◌≡◌, ℕ, List, length, replicate, Option, Some, None, refl, sym, ◌∙◌, ap, inl, inr}
use Rattle.std.specs.Prelude.{is_some, IsSome, Bool, false, slice_index_or}
use Rattle.std.proofs.lemmas.Bool.{false≢true, cases_lt}
use Rattle.std.proofs.lemmas.List.{get_or-replicate, get_or_past, length-replicate}
use Rattle.std.specs.Ordering.{nat_cmp}
use Rattle.std.specs.FinMap.{get-empty}
use Rattle.vm_base.specs.Frames.{FrameView}
use Rattle.kernel_meaning.specs.Leaves.{no_versions, unused_cell, version_at}
use Rattle.kernel_meaning.specs.CellAccount.{empty_account}
use Rattle.leaf_cell.specs.CellView.{new_view, bytes_in}
use Rattle.leaf_cell.specs.Inside.{AreInside, AreAtHome}
use Rattle.leaf_cell.specs.Renaming.{renamed, IsLive}
use Rattle.leaf_cell.specs.Standing.{StandsFor}
use Rattle.leaf_cell.proofs.AbsentPages.{version_at-none}
use Rattle.leaf_cell.proofs.WritablePages.{never-writable}

-- nothing is something
pub none_is_some : {X P : Type 0} (o : Option X) → o ≡ None → IsSome o → P
none_is_some None e h = absurd (false≢true h)
none_is_some (Some x) e h = absurd (false≢true (sym (ap is_some e)))

pub none_is_not_some : {P : Type 0} (o : Option ℕ) (x : ℕ) → o ≡ None → o ≡ Some x → P
none_is_not_some o x e h = absurd (false≢true (ap is_some (sym e ∙ h)))

abbrev no_frames : List (Option FrameView)
no_frames = replicate 1024 None

-- there is no frame
pub no_frame : (place : ℕ) → slice_index_or no_frames place None ≡ None
no_frame place = elim (cases_lt place 1024) [
  | inl small ↦ get_or-replicate 1024 place None None small
  | inr large ↦ get_or_past no_frames place None (rw (length-replicate {A = Option FrameView} 1024 None) large)
]

none_at_home : (frames : List (Option FrameView)) → AreAtHome frames no_versions
none_at_home frames page place small there = none_is_not_some (version_at no_versions page) place (version_at-none page) there

pub inside_new : (frames : List (Option FrameView)) → frames ≡ no_frames → AreInside None None frames
inside_new frames is = record {
  room = ap length is ∙ length-replicate {A = Option FrameView} 1024 None;
  parent_home = none_at_home frames;
  own_home = none_at_home frames;
  named = λ page place small home there. none_is_some (slice_index_or frames place None) (ap (λ fs. slice_index_or fs place None) is ∙ no_frame place) there;
  used = λ table e. absurd (false≢true (ap is_some e));
  parent_size = length-replicate {A = Option ℕ} 512 None;
  own_size = length-replicate {A = Option ℕ} 512 None;
  writable = record { size = length-replicate {A = Bool} 512 false; apart = λ page may. absurd (false≢true (sym (never-writable page) ∙ may)) };
  joined = λ is. absurd (false≢true is);
}

-- no version lives in a cell that nobody has
none_live : {P : Type 0} (page version : ℕ) → IsLive unused_cell page version → P
none_live page version (inl there) = none_is_not_some (version_at no_versions page) version (version_at-none page) there
none_live page version (inr h) = absurd h

none_renamed : (name : ℕ → ℕ → ℕ) → no_versions ≡ renamed name no_versions
none_renamed name = refl

pub stands_new : StandsFor new_view empty_account
stands_new = record {
  name = λ page version. version;
  leaves = record {
    parent = none_renamed (λ page version. version);
    kept = tt;
    apart = λ page version other a b e. none_live page version a;
  };
  made = λ page version live. none_live page version live;
  pages = λ page small. ap (bytes_in no_frames) (version_at-none page) ∙ sym (get-empty nat_cmp page);
  snapshots = λ n page kept there unlost small. absurd (false≢true (ap is_some there));
  whole = record { below = λ page place live. none_live page place live; filled = λ page place live. none_live page place live };
}
