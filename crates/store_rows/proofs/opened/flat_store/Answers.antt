use Rattle.std.proofs.Common.{sym, subst}
use Rattle.store_meaning.specs.Standing.{MayBegin}
use Rattle.store_rows.proofs.Openings.{flat_may, begins_from, kept_from}
use Rattle.store_rows.proofs.opened.flat_store.Goals as goal

pub store_in-requires : goal.store_in-requires
store_in-requires c = record { may = subst MayBegin (sym c.in_ok-flat.ensures.memory) (flat_may c.args.pages c.requires.room) }

-- the memory in which the store begins is a new one
pub returns-in-Ok-clause-begun : goal.returns-in-Ok-clause-begun
returns-in-Ok-clause-begun c = begins_from _ _ c.in_ok-flat.ensures.memory c.in-Ok.ensures.begun

pub returns-in-Ok-clause-keeps : goal.returns-in-Ok-clause-keeps
returns-in-Ok-clause-keeps c = kept_from _ _ c.in_ok-flat.ensures.memory c.in-Ok.ensures.keeps
