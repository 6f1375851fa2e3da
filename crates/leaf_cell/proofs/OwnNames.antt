-- What a snapshot's own table names.
use Rattle.std.proofs.Common.{◌≡◌, ℕ, List, Option, Some, None, refl, sym, ◌∙◌, ap}
use Rattle.std.specs.Prelude.{Bool, true, false, nat_eq, ◌||◌}
use Rattle.std.specs.Option.{option_eq}
use Rattle.vm_base.specs.Frames.{FrameView}
use Rattle.kernel_meaning.specs.Leaves.{no_versions, version_at, holds_number, is_named}
use Rattle.leaf_cell.specs.declared.snapshot.Snapshot.{Snapshot}
use Rattle.leaf_cell.specs.declared.snapshot.SnapshotLeaf.{SnapshotLeaf}
use Rattle.leaf_cell.specs.declared.snapshot.SnapshotLeaf.TheVariants as code
use Rattle.leaf_cell.specs.Places.{TableView}
use Rattle.leaf_cell.specs.Inside.{cell_value, own_places, snapshot_places}
use Rattle.leaf_cell.proofs.AbsentPages.{version_at-none}

holds-eq : (o : Option ℕ) (place : ℕ) → holds_number o place ≡ option_eq nat_eq o (Some place)
holds-eq None place = refl
holds-eq (Some q) place = refl

or-false : (a : Bool) → (a || false) ≡ a
or-false true = refl
or-false false = refl

none-eq : (page place : ℕ) → false ≡ option_eq nat_eq (version_at no_versions page) (Some place)
none-eq page place = ap (λ o. option_eq nat_eq o (Some place)) (sym (version_at-none page))

-- a snapshot's own leaf names a place where its table does
pub named-own : (parent : Option TableView) (snapshot : Option Snapshot) (frames : List (Option FrameView)) (page place : ℕ)
    → is_named (cell_value parent snapshot frames).leaves page place ≡ option_eq nat_eq (version_at (own_places snapshot) page) (Some place)
named-own parent None frames page place = none-eq page place
named-own parent (Some it) frames page place = by_leaf it.leaf
  where
    by_leaf : (leaf : SnapshotLeaf) → is_named (cell_value parent (Some (record it { leaf = leaf })) frames).leaves page place ≡ option_eq nat_eq (version_at (snapshot_places no_versions leaf) page) (Some place)
    by_leaf (code.Own table) = or-false (holds_number (version_at table.places page) place) ∙ holds-eq (version_at table.places page) place
    by_leaf code.Joined = none-eq page place
    by_leaf (code.Lost at) = none-eq page place
