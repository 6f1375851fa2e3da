-- The entry that was found is left.
use Rattle.std.proofs.Common.{sym, subst, refl}
use Rattle.std.specs.Prelude.{IsSome}
use Rattle.table_levels.proofs.unlinking.take_entry.Goals as goal

pub returns-in-Some-clause-used : goal.returns-in-Some-clause-used
returns-in-Some-clause-used c = λ there. (c.in-Some.field-0.0, c.in-Some.ensures.1, subst IsSome (sym c.in-Some.ensures.2) refl)
