-- What a cell holds is its share.
use Rattle.std.proofs.Common.{◌≡◌, ℕ, ◌+◌, List, length, Option, Some, None, refl, ap, arith}
use Rattle.std.specs.Prelude.{is_some, cond, count_by}
use Rattle.vm_base.specs.Frames.{FrameView}
use Rattle.kernel_meaning.specs.Leaves.{Versions, no_versions, share, is_own, parent_leaves, own_leaves, named_pairs}
use Rattle.kernel_meaning.specs.CellAccount.{CellAccount, account_share}
use Rattle.leaf_cell.specs.declared.snapshot.Snapshot.{Snapshot}
use Rattle.leaf_cell.specs.Places.{TableView}
use Rattle.leaf_cell.specs.CellView.{CellView, held_of}
use Rattle.leaf_cell.specs.Inside.{AreInside, table_places, kept_values, cell_value}
use Rattle.leaf_cell.specs.Standing.{StandsFor}
use Rattle.leaf_cell.proofs.TouchMade.{old-leaf}
use Rattle.leaf_cell.proofs.LivePairs.{pairs-filled}
use Rattle.leaf_cell.proofs.SameShare.{share-alike}

-- whose leaf it is does not depend on the parent's pages
own-count : (a b : Versions) (snapshot : Option Snapshot) → count_by (λ it. is_own it.leaf) (kept_values a snapshot) ≡ count_by (λ it. is_own it.leaf) (kept_values b snapshot)
own-count a b None = refl
own-count a b (Some it) = refl

pub held-share : (parent : Option TableView) (snapshot : Option Snapshot) (frames : List (Option FrameView)) → AreInside parent snapshot frames
    → cond (is_some parent) 1 0 + count_by (λ it. is_own it.leaf) (kept_values no_versions snapshot) + count_by is_some frames ≡ share (cell_value parent snapshot frames).leaves
held-share parent snapshot frames inside =
    let leaf : ◌≡◌ {A = ℕ} (parent_leaves (cell_value parent snapshot frames).leaves) (cond (is_some parent) 1 0) = ap (λ b. cond b 1 0) (old-leaf parent snapshot frames inside) in
    let own : own_leaves (cell_value parent snapshot frames).leaves ≡ count_by (λ it. is_own it.leaf) (kept_values no_versions snapshot) = own-count (table_places parent) no_versions snapshot in
    let pages : length (named_pairs (cell_value parent snapshot frames).leaves) ≡ count_by is_some frames = pairs-filled parent snapshot frames inside in
    omega (arith, leaf, own, pages)

-- the frames that a cell holds are its share
pub held_of-share : (parent : Option TableView) (snapshot : Option Snapshot) (frames : List (Option FrameView)) → AreInside parent snapshot frames
    → held_of (cell_value parent snapshot frames) ≡ share (cell_value parent snapshot frames).leaves
held_of-share parent snapshot frames inside = omega (arith, pairs-filled parent snapshot frames inside)

pub share-stands : (view : CellView) (account : CellAccount) → StandsFor view account → share view.leaves ≡ account_share account
share-stands view account stands = share-alike stands.name view.leaves account.state.leaves stands.leaves
