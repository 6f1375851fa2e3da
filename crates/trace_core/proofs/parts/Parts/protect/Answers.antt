use Rattle.std.proofs.Common.{◌∙◌, ap, Err}
use Rattle.std.proofs.lemmas.Result.{err_from_is_err_and}
use Rattle.area_list.specs.Answers.{refusal_of}
use Rattle.trace_core.specs.CallAnswers.{area_outcome}
use Rattle.trace_core.proofs.events.AreaChanges.{ran-protect_refused, ran-protected_entries}
use Rattle.trace_core.proofs.events.KernelFacts.{known-tables}
use Rattle.trace_core.proofs.parts.Parts.protect.Goals as goal

pub protect-requires-2-clause-stands : goal.protect-requires-2-clause-stands
protect-requires-2-clause-stands g c = known-tables _ c.requires.stands

pub returns-in_err-protect-clause-ran : goal.returns-in_err-protect-clause-ran
returns-in_err-protect-clause-ran g c = λ machine state st.
    let exit = err_from_is_err_and c.from_residual.result c.from_residual.ensures.1 in
    ran-protect_refused _ machine state st c.args.first c.args.pages c.args.perm
    (refusal_of c.in_err-protect.field-0.0) c.protect.new.self (area_outcome c.from_residual.result) c.in_err-protect.ensures.answer.0 c.in_err-protect.ensures.answer.1
    (ap area_outcome (exit.1 ∙ ap Err exit.2))

pub returns-clause-ran : goal.returns-clause-ran
returns-clause-ran g c = λ machine state st.
    ran-protected_entries _ machine state st c.args.first c.args.pages c.args.perm c.protect.new.self c.in_ok-protect.ensures.answer
    c.protect-2.new.self _ c.protect-2.ensures.tables c.protect-2.ensures.unasked
