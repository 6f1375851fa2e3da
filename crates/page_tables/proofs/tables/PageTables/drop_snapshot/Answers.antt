use Rattle.std.proofs.Common.{◌≡◌, Some, refl, sym, ◌∙◌, ap, arith}
use Rattle.kernel_meaning.specs.Leaves.{share}
use Rattle.leaf_cell.specs.CellView.{held_of}
use Rattle.table_levels.specs.Cells.{tables_of}
use Rattle.page_tables.specs.Held.{frames_in, shares_in, snapshot_frames}
use Rattle.page_tables.proofs.StandingFacts.{known-slots}
use Rattle.std.specs.List.{slice_get}
use Rattle.page_tables.specs.declared.slot.Slot.{Slot}
use Rattle.page_tables.specs.Forking.{owner_if_used}
use Rattle.page_tables.proofs.KeptWriting.{keeps-writing}
use Rattle.page_tables.proofs.Known.{known-owner}
use Rattle.page_tables.proofs.DroppedTables.{drop-made, freed-sum}
use Rattle.std.proofs.Math.Logic.{∥∥₁_map}
use Rattle.page_tables.proofs.tables.PageTables.drop_snapshot.Goals as goal

pub drop_cells-requires-clause-known : goal.drop_cells-requires-clause-known
drop_cells-requires-clause-known g c = ∥∥₁_map c.requires.stands (λ it. known-slots c.args.self.now.directory c.args.self.now.snapshot c.args.self.now.slots.items it.0 it.1)

pub returns-clause-made : goal.returns-clause-made
returns-clause-made g c =
    drop-made c.args.self.now c.in-Some.tables (sym c.take.ensures.value
    ∙ c.in-Some.is) g.A.Allot.goes _ _ _ _ c.drop_cells.new.slots.items c.drop_cells.ensures.dropped c.free_unused.ensures c.drop_cells.ensures.returned c.release.ensures.given
    refl c.take.ensures.after

pub returns-clause-held : goal.returns-clause-held
returns-clause-held g c =
    let none : snapshot_frames c.take.new.self ≡ 0 = ap snapshot_frames c.take.ensures.after in
    let had : snapshot_frames c.args.self.now.snapshot ≡ tables_of c.in-Some.tables.directory = ap snapshot_frames (sym c.take.ensures.value ∙ c.in-Some.is) in
    let same : frames_in c.free_unused.new.slots.items ≡ frames_in c.drop_cells.new.slots.items =
    freed-sum (λ slot. held_of slot.cell) (λ slot it e. ap held_of e) c.drop_cells.new.slots.items c.free_unused.new.slots.items
    c.free_unused.ensures in
    omega (arith, none, had, same, c.drop_cells.ensures.held, c.release.ensures.out)

pub invariant_of-self-clause-even : goal.invariant_of-self-clause-even
invariant_of-self-clause-even g c =
    let frames : frames_in c.free_unused.new.slots.items ≡ frames_in c.drop_cells.new.slots.items =
    freed-sum (λ slot. held_of slot.cell) (λ slot it e. ap held_of e) c.drop_cells.new.slots.items c.free_unused.new.slots.items
    c.free_unused.ensures in
    let shares : shares_in c.free_unused.new.slots.items ≡ shares_in c.drop_cells.new.slots.items =
    freed-sum (λ slot. share slot.cell.leaves) (λ slot it e. ap (λ cell. share cell.leaves) e) c.drop_cells.new.slots.items
    c.free_unused.new.slots.items c.free_unused.ensures in
    omega (arith, frames, shares, c.drop_cells.ensures.even, c.args.self.now.even)

pub returns-clause-writable : goal.returns-clause-writable
returns-clause-writable g c =
    let frames : frames_in c.free_unused.new.slots.items ≡ frames_in c.drop_cells.new.slots.items =
    freed-sum (λ slot. held_of slot.cell) (λ slot it e. ap held_of e) c.drop_cells.new.slots.items c.free_unused.new.slots.items
    c.free_unused.ensures in
    let shares : shares_in c.free_unused.new.slots.items ≡ shares_in c.drop_cells.new.slots.items =
    freed-sum (λ slot. share slot.cell.leaves) (λ slot it e. ap (λ cell. share cell.leaves) e) c.drop_cells.new.slots.items
    c.free_unused.new.slots.items c.free_unused.ensures in
    let even : frames_in c.free_unused.new.slots.items ≡ shares_in c.free_unused.new.slots.items =
    omega (arith, frames, shares, c.drop_cells.ensures.even, c.args.self.now.even) in
    keeps-writing c.args.self.now (record c.args.self.now {
      slots = c.free_unused.new.slots;
      even = even;
    }) refl (known-owner c.args.self.now c.requires.stands) (λ s slot found.
    let it : (it : Slot) × ((slice_get c.drop_cells.new.slots.items s ≡ Some it) × (it.cell.writable ≡ slot.cell.writable)) = c.drop_cells.ensures.bits s slot found in
    let last : (last : Slot) × ((slice_get c.free_unused.new.slots.items s ≡ Some last) × ((last.cell ≡ it.0.cell) × (last.owner ≡ owner_if_used it.0))) = c.free_unused.ensures.each s it.0 it.1.0 in
    (last.0, (last.1.0, ap (λ cell. cell.writable) last.1.1.0 ∙ it.1.1)))
