use Rattle.std.proofs.Common.{◌∙◌, ap, refl, Err}
use Rattle.std.proofs.lemmas.Result.{err_from_is_err_and}
use Rattle.area_list.specs.Answers.{refusal_of}
use Rattle.page_tables.proofs.view.TablesShown.{same-number}
use Rattle.trace_core.specs.KernelStanding.{sides_of}
use Rattle.trace_core.proofs.events.Writes.{moved-alike}
use Rattle.trace_core.specs.CallAnswers.{area_outcome}
use Rattle.trace_core.proofs.events.AreaChanges.{ran-unmap_refused, ran-unmapped}
use Rattle.trace_core.proofs.events.KernelFacts.{known-tables, known-lent}
use Rattle.trace_core.proofs.parts.Parts.unmap.Goals as goal

pub unmap-requires-2-clause-stands : goal.unmap-requires-2-clause-stands
unmap-requires-2-clause-stands g c = known-tables _ c.requires.stands

pub unmap-requires-2-clause-lent : goal.unmap-requires-2-clause-lent
unmap-requires-2-clause-lent g c = record { lent = known-lent _ c.requires.stands; untold = refl }

-- src/mappings.rt:30:9
pub returns-in_err-unmap-clause-ran : goal.returns-in_err-unmap-clause-ran
returns-in_err-unmap-clause-ran g c = λ machine state st.
    let exit = err_from_is_err_and c.from_residual.result c.from_residual.ensures.1 in
    ran-unmap_refused _ machine state st c.args.first c.args.pages
    (refusal_of c.in_err-unmap.field-0.0) c.unmap.new.self (area_outcome c.from_residual.result) c.in_err-unmap.ensures.answer.0 c.in_err-unmap.ensures.answer.1
    (ap area_outcome (exit.1 ∙ ap Err exit.2))

-- src/mappings.rt:20:5
pub returns-clause-ran : goal.returns-clause-ran
returns-clause-ran g c = λ machine state st.
    let made = c.unmap-2.ensures.made in
    ran-unmapped _ machine state st c.args.first c.args.pages c.unmap.new.self c.in_ok-unmap.ensures.answer _ c.unmap-2.new.self made.deals made.led
    (made.follows (sides_of state st.pages) st.tables)
    (moved-alike _ _ _ _ c.unmap-2.ensures.lent.held st.out)
    (same-number c.args.self.now.tables c.unmap-2.new.self c.unmap-2.ensures.lent.snapshot ∙ st.number)
    (c.unmap-2.ensures.lent.slots ∙ st.slots)
