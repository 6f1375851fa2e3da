use Rattle.std.proofs.Common.{length, subst}
use Rattle.page_tables.specs.Losses.{IsLowestLost}
use Rattle.page_tables.proofs.LowestLoss.{lowest-is}
use Rattle.page_tables.proofs.tables.PageTables.lowest_loss.Goals as goal

pub returns : goal.returns
returns c = record {
  loss = λ sides st.
      lowest-is c.args.self.now sides st c.args.number c.lowest_lost.result
      (subst (λ slots. IsLowestLost slots c.args.number (length slots) c.lowest_lost.result) c.deref.ensures.value c.lowest_lost.ensures);
}
