-- The one want was refused.
use Rattle.std.proofs.Common.{sym, subst}
use Rattle.std.proofs.lemmas.Result.{err_from_is_err_and}
use Rattle.table_levels.specs.Requests.{RefusesOne, wanted_if}
use Rattle.table_levels.proofs.Asking.{refuses_alone}
use Rattle.table_levels.proofs.frames.take_if.Goals as goal

pub returns-in_err-take-clause-requests : goal.returns-in_err-take-clause-requests
returns-in_err-take-clause-requests g c =
    let goes = g.A.Allot.goes in
    let old = g.A.Allot.state c.args.allot.now in
    let new = g.A.Allot.state c.take.new.self in
    let exit = err_from_is_err_and c.from_residual.result c.from_residual.ensures.1 in
    rw (exit.1, exit.2) (subst (λ wanted. RefusesOne goes old (wanted_if wanted c.args.want) c.in_err-take.field-0.0.at new) (sym c.if-not-is_wanted.false)
    (refuses_alone goes c.args.want c.in_err-take.field-0.0.at old new c.in_err-take.ensures.denied))
