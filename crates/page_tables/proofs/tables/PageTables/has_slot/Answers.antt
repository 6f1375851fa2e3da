use Rattle.std.proofs.Common.{◌∙◌, sym, ap}
use Rattle.std.specs.Prelude.{is_some}
use Rattle.page_tables.proofs.Vacancies.{kept-found}
use Rattle.page_tables.proofs.tables.PageTables.has_slot.Goals as goal

pub returns : goal.returns
returns c = λ sides st. c.is_kept.ensures ∙ kept-found c.args.self.now sides st c.args.cell
    (ap is_some (sym c.find.ensures) ∙ sym c.is_some.ensures ∙ c.if-is_some.false)
