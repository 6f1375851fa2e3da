-- Whether the parent has a page, by its versions and by its bytes.
use Rattle.std.proofs.Common.{◌≡◌, ℕ, ◌%◌, ◌<◌, List, [], ◌∷◌, Option, Some, None, refl, ◌∙◌, ap, arith}
use Rattle.std.specs.Prelude.{is_some, zero, suc}
use Rattle.std.specs.Option.{option_map}
use Rattle.std.specs.List.{slice_get}
use Rattle.std.specs.FinMap.{get}
use Rattle.vm_base.specs.Places.{cell_of}
use Rattle.kernel_meaning.specs.Leaves.{Versions, version_at, has_present}
use Rattle.kernel_meaning.specs.EventRequests.{page_version}
use Rattle.leaf_cell.specs.CellView.{parent_page}
use Rattle.leaf_cell.specs.Standing.{StandsFor}
use Rattle.leaf_cell.proofs.Renamed.{version_at-renamed}
use Rattle.table_levels.specs.Cells.{CellMap}
use Rattle.page_tables.specs.declared.slot.Slot.{Slot}
use Rattle.page_tables.specs.declared.tables.SnapshotTables.{SnapshotTables}
use Rattle.page_tables.specs.Sides.{Sides}
use Rattle.page_tables.specs.Standing.{StandFor}
use Rattle.page_tables.proofs.ParentPages.{account_at, slot-stands, page-known}

-- one page of a range of one
pub one-present : (versions : Versions) (page : ℕ) → has_present versions page 1 ≡ is_some (version_at versions page)
one-present [] zero = refl
one-present [] (suc page) = refl
one-present (None ∷ versions) zero = refl
one-present (Some version ∷ versions) zero = refl
one-present (version ∷ versions) (suc page) = one-present versions page

some-mapped : (name : ℕ → ℕ) (o : Option ℕ) → is_some (option_map name o) ≡ is_some o
some-mapped name None = refl
some-mapped name (Some x) = refl

module _ (directory : CellMap) (snapshot : Option SnapshotTables) (slots : List Slot) (sides : Sides) (st : StandFor directory snapshot slots sides)
    (page s : ℕ) (slot : Slot) (known : get directory (cell_of page) ≡ Some s) (here : slice_get slots s ≡ Some slot) where
  stands : StandsFor slot.cell (account_at directory snapshot slots sides st (cell_of page))
  stands = slot-stands directory snapshot slots sides st (cell_of page) s slot here (st.named (cell_of page) s known)

  -- the version in the slot's cell
  pub version-there : is_some (version_at slot.cell.leaves.parent (page % 512)) ≡ is_some (page_version sides.leaves page)
  version-there =
      ap (λ versions. is_some (version_at versions (page % 512))) stands.leaves.parent
      ∙ ap is_some (version_at-renamed stands.name (st.cells (cell_of page)).leaves.parent (page % 512))
      ∙ some-mapped (stands.name (page % 512)) (version_at (st.cells (cell_of page)).leaves.parent (page % 512))
      ∙ ap (λ cell. is_some (version_at cell.parent (page % 512))) (st.each.leaves (cell_of page))

  pub bytes-there : is_some (parent_page slot.cell (page % 512)) ≡ is_some (get sides.pages page)
  bytes-there =
      let low : page % 512 < 512 = omega arith in
      ap is_some (stands.pages (page % 512) low ∙ page-known directory snapshot slots sides st page s known)
