use Rattle.store_rows.proofs.Openings.{begun_stands}
use Rattle.store_rows.proofs.opened.store_in.Goals as goal

pub returns-clause-stands : goal.returns-clause-stands
returns-clause-stands g c = begun_stands _ _ c.in_ok-begin.ensures.begun
