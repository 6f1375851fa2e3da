use Rattle.std.proofs.Common.{ap, ◌∙◌, arith}
use Rattle.std.specs.Prelude.{count_by, is_some}
use Rattle.std.proofs.lemmas.List.{take_all}
use Rattle.leaf_cell.proofs.leaf_table.LeafTable.pages.Goals as goal

pub returns : goal.returns
returns c = c.loop-page.invariant ∙ ap (count_by is_some) (take_all c.loop-page.page c.args.self.now.places (omega (arith, c.entries-page-end.ensures.size, c.entries-page-end.ensures.count, c.loop-page-test.false)))
