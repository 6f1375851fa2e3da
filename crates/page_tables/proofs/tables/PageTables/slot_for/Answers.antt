-- The snapshot's slot, or a free one.
use Rattle.std.proofs.Common.{None, sym, subst, inl}
use Rattle.page_tables.specs.Standing.{IsSlotOf}
use Rattle.page_tables.proofs.SlotChoice.{kept-slot, chosen-free}
use Rattle.page_tables.proofs.tables.PageTables.slot_for.Goals as goal

pub returns-in-Some : goal.returns-in-Some
returns-in-Some c = λ sides st. inl (kept-slot c.args.self.now sides st c.args.cell c.in-Some.slot (sym c.in-Some.ensures))

pub returns-in-None : goal.returns-in-None
returns-in-None c = λ sides st. chosen-free c.args.self.now sides st c.args.cell c.slot_of.result c.requires.new (sym c.in-None.ensures)
    (subst (λ slots. IsSlotOf slots None c.slot_of.result) c.deref.ensures.value c.slot_of.ensures)
