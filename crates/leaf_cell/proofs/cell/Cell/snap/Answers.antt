use Rattle.std.proofs.Common.{sym, ap, ◌∙◌}
use Rattle.leaf_cell.specs.Inside.{table_places, kept_values}
use Rattle.leaf_cell.specs.States.{nth_number}
use Rattle.leaf_cell.proofs.cell.Cell.snap.Goals as goal

pub returns-in-None-clause-nth : goal.returns-in-None-clause-nth
returns-in-None-clause-nth c = ap (λ it. nth_number (kept_values (table_places c.self.inside.parent) it) c.args.nth) (sym c.in-None.is)
    ∙ ap (λ view. nth_number view.leaves.kept c.args.nth) c.self.view_is
