-- The one table was refused.
use Rattle.std.proofs.Common.{◌∷◌, [], replicate, sym, subst}
use Rattle.std.proofs.lemmas.Result.{err_from_is_err_and}
use Rattle.table_levels.specs.Requests.{RefusesOne}
use Rattle.table_levels.specs.Walks.{Place, tables_at}
use Rattle.table_levels.proofs.Asking.{refuses_alone}
use Rattle.table_levels.proofs.copying.copy_of.Goals as goal

pub returns-in_err-frame-clause-requests : goal.returns-in_err-frame-clause-requests
returns-in_err-frame-clause-requests g c =
    let goes = g.A.Allot.goes in
    let old = g.A.Allot.state c.args.allot.now in
    let new = g.A.Allot.state c.take.new.self in
    let exit = err_from_is_err_and c.from_residual.result c.from_residual.ensures.1 in
    rw (exit.1, exit.2) (subst (λ (table : Place). RefusesOne goes old (replicate (tables_at (table ∷ [])) c.args.want) c.in_err-frame.field-0.0.at new) (sym c.in-Some.is)
    (refuses_alone goes c.args.want c.in_err-frame.field-0.0.at old new c.in_err-frame.ensures.denied))
