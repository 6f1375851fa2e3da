-- What it made that a snapshot goes whose leaf is the parent's.
use Rattle.std.proofs.Common.{◌≡◌, ℕ, ◌+◌, ◌⊎◌, List, [], ◌∷◌, Option, Some, None, refl, sym, ◌∙◌, ap, subst, arith}
use Rattle.std.specs.Prelude.{not, cond, count_by, is_some, ◌==◌}
use Rattle.std.proofs.lemmas.Bool.{false≢true}
use Rattle.std.proofs.lemmas.List.{length-replicate}
use Rattle.vm_base.specs.Frames.{FrameView}
use Rattle.kernel_meaning.specs.Leaves.{no_versions, version_at, is_own, share}
use Rattle.kernel_meaning.specs.CellAccount.{CellAccount, Unmark}
use Rattle.leaf_cell.specs.declared.snapshot.Snapshot.{Snapshot}
use Rattle.leaf_cell.specs.declared.snapshot.SnapshotLeaf.TheVariants as code
use Rattle.leaf_cell.specs.Places.{TableView}
use Rattle.leaf_cell.specs.CellView.{CellView, without_snapshot}
use Rattle.leaf_cell.specs.Inside.{AreInside, AreAtHome, AreWritable, leaf_value, kept_value, snapshot_places, table_places, cell_value}
use Rattle.leaf_cell.specs.Standing.{StandsFor, TakesAccount}
use Rattle.leaf_cell.proofs.Renamed.{eqb-refl}
use Rattle.leaf_cell.proofs.HeldShare.{held-share}
use Rattle.leaf_cell.proofs.AllowedActs.{allowed-stands}
use Rattle.leaf_cell.proofs.DropMade.{takes-dropped}
use Rattle.leaf_cell.proofs.WholeCells.{whole-inside}

module _ (parent : Option TableView) (it : Snapshot) (frames : List (Option FrameView)) (n : ℕ)
    (number : it.number ≡ n) (leaf : it.leaf ≡ code.Joined) where
  abbrev before : CellView
  before = cell_value parent (Some it) frames

  abbrev after : CellView
  after = cell_value parent None frames

  pub inside-forgotten : AreInside parent (Some it) frames → AreInside parent None frames
  inside-forgotten inside = record {
    room = inside.room;
    parent_home = inside.parent_home;
    own_home = subst (λ vs. AreAtHome frames vs) (ap (snapshot_places no_versions) leaf) inside.own_home;
    named = λ page place small home there.
        subst (λ vs. (version_at (table_places parent) page ≡ Some place) ⊎ (version_at vs page ≡ Some place))
        (ap (snapshot_places no_versions) leaf) (inside.named page place small home there);
    used = inside.used;
    parent_size = inside.parent_size;
    own_size = length-replicate {A = Option ℕ} 512 None;
    writable = subst (AreWritable parent) (ap (snapshot_places no_versions) leaf) inside.writable;
    joined = λ is. absurd (false≢true is);
  }

  pub forgotten-view : after.leaves ≡ without_snapshot n before.leaves
  forgotten-view =
      ap (λ b. record before.leaves { kept = cond (not b) (kept_value (table_places parent) it ∷ []) [] })
      (sym (ap (λ x. x == n) number ∙ eqb-refl n))

  -- no table was the snapshot's
  no_own : count_by (λ kept. is_own kept.leaf) (kept_value no_versions it ∷ []) ≡ 0
  no_own = ap (λ l. count_by is_own (leaf_value l ∷ [])) leaf

  same_share : AreInside parent (Some it) frames → share before.leaves ≡ share after.leaves + 0
  same_share inside =
      omega (arith, sym (held-share parent (Some it) frames inside), sym (held-share parent None frames (inside-forgotten inside)), no_own)

  pub takes-forgotten : AreInside parent (Some it) frames → (account : CellAccount) → StandsFor before account
      → TakesAccount (Unmark n) before after [] None account
  takes-forgotten inside account stands = record {
    allowed = allowed-stands before account stands (Unmark n);
    stands = (takes-dropped before after account n 0 stands forgotten-view (λ page small. refl)
        (λ m page kept found unlost small. absurd (false≢true (ap is_some found))) (same_share inside)
        (whole-inside parent None frames (inside-forgotten inside))).stands;
    asked = refl;
    ended = refl;
  }
