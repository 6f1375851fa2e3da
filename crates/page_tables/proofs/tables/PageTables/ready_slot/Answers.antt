-- The entry is read where the directory has the cell.
use Rattle.std.proofs.Common.{◌≡◌, Some, refl, sym, ◌∙◌, ap, subst}
use Rattle.std.specs.Prelude.{true}
use Rattle.std.specs.List.{slice_get}
use Rattle.std.specs.FinMap.{get}
use Rattle.vm_base.specs.Places.{cell_of}
use Rattle.leaf_cell.specs.Touching.{IsAlone}
use Rattle.leaf_cell.specs.Writable.{writable_at}
use Rattle.page_tables.specs.Permissions.{may_write}
use Rattle.page_tables.proofs.ParentPages.{owned-here, owned-index}
use Rattle.page_tables.proofs.Permissions.{never-written}
use Rattle.page_tables.proofs.WrittenPages.{bit-known, written-ready}
use Rattle.page_tables.proofs.Known.{known-owner}
use Rattle.page_tables.proofs.tables.PageTables.ready_slot.Goals as goal

pub index-requires : goal.index-requires
index-requires c =
    let known : get c.args.self.now.directory (cell_of c.args.page) ≡ Some c.in-Some.slot = ap (get c.args.self.now.directory)
    (sym c.cell_and_index-cell.ensures.cell) ∙ sym c.find.ensures ∙ c.in-Some.is in
    owned-index c.args.self.now.slots.items _ c.in-Some.slot (cell_of c.args.page) c.args.self.now.slots.ok.0
    (known-owner c.args.self.now c.requires.stands (cell_of c.args.page) c.in-Some.slot known)

pub returns-then-may_write-clause-known : goal.returns-then-may_write-clause-known
returns-then-may_write-clause-known c = ap (get c.args.self.now.directory) (sym c.cell_and_index-cell.ensures.cell) ∙ sym c.find.ensures
    ∙ c.in-Some.is

pub returns-then-may_write-clause-ready : goal.returns-then-may_write-clause-ready
returns-then-may_write-clause-ready c =
    let known : get c.args.self.now.directory (cell_of c.args.page) ≡ Some c.in-Some.slot = ap (get c.args.self.now.directory)
    (sym c.cell_and_index-cell.ensures.cell) ∙ sym c.find.ensures ∙ c.in-Some.is in
    let here : slice_get c.args.self.now.slots.items c.in-Some.slot ≡ Some c.index.result.now = owned-here c.args.self.now.slots.items
    c.in-Some.slot (cell_of c.args.page) c.index.result.now
    (known-owner c.args.self.now c.requires.stands (cell_of c.args.page) c.in-Some.slot known) c.index.ensures in
    sym c.if-may_write.true ∙ c.may_write.ensures.writable ∙ ap (writable_at
    c.index.result.now.cell.writable) c.cell_and_index-cell.ensures.index
    ∙ sym (bit-known c.args.self.now (cell_of c.args.page) c.in-Some.slot c.index.result.now known here c.args.page refl)

pub returns-then-may_write-clause-alone : goal.returns-then-may_write-clause-alone
returns-then-may_write-clause-alone c = λ some sides st.
    let known : get c.args.self.now.directory (cell_of c.args.page) ≡ Some c.in-Some.slot = ap (get c.args.self.now.directory)
    (sym c.cell_and_index-cell.ensures.cell) ∙ sym c.find.ensures ∙ c.in-Some.is in
    let here : slice_get c.args.self.now.slots.items c.in-Some.slot ≡ Some c.index.result.now = owned-here c.args.self.now.slots.items
    c.in-Some.slot (cell_of c.args.page) c.index.result.now
    (known-owner c.args.self.now c.requires.stands (cell_of c.args.page) c.in-Some.slot known) c.index.ensures in
    let bit : may_write c.args.self.now c.args.page ≡ true =
    bit-known c.args.self.now (cell_of c.args.page) c.in-Some.slot c.index.result.now known here c.args.page refl
    ∙ sym (ap (writable_at c.index.result.now.cell.writable) c.cell_and_index-cell.ensures.index) ∙ sym c.may_write.ensures.writable
    ∙ c.if-may_write.true in
    written-ready c.args.self.now sides st c.args.page c.in-Some.slot c.index.result.now known here
    (λ unjoined told. subst (IsAlone c.index.result.now.cell.leaves) c.cell_and_index-cell.ensures.index
    (c.may_write.ensures.alone unjoined c.if-may_write.true)) bit

pub returns-else-may_write-clause-ready : goal.returns-else-may_write-clause-ready
returns-else-may_write-clause-ready c =
    let known : get c.args.self.now.directory (cell_of c.args.page) ≡ Some c.in-Some.slot = ap (get c.args.self.now.directory)
    (sym c.cell_and_index-cell.ensures.cell) ∙ sym c.find.ensures ∙ c.in-Some.is in
    let here : slice_get c.args.self.now.slots.items c.in-Some.slot ≡ Some c.index.result.now = owned-here c.args.self.now.slots.items
    c.in-Some.slot (cell_of c.args.page) c.index.result.now
    (known-owner c.args.self.now c.requires.stands (cell_of c.args.page) c.in-Some.slot known) c.index.ensures in
    sym c.if-may_write.false ∙ c.may_write.ensures.writable ∙ ap (writable_at
    c.index.result.now.cell.writable) c.cell_and_index-cell.ensures.index
    ∙ sym (bit-known c.args.self.now (cell_of c.args.page) c.in-Some.slot c.index.result.now known here c.args.page refl)

pub returns-in-None-clause-ready : goal.returns-in-None-clause-ready
returns-in-None-clause-ready c =
    sym (never-written c.args.self.now c.args.page (ap (get c.args.self.now.directory) (sym c.cell_and_index-cell.ensures.cell)
    ∙ sym c.find.ensures ∙ c.in-None.is))
