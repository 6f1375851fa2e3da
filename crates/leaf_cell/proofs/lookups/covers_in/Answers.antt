use Rattle.std.proofs.Common.{sym, ap, ◌∙◌}
use Rattle.kernel_meaning.specs.Leaves.{has_present}
use Rattle.leaf_cell.specs.Inside.{table_places}
use Rattle.leaf_cell.proofs.AbsentPages.{has_present-never}
use Rattle.leaf_cell.proofs.lookups.covers_in.Goals as goal

pub returns-in-None : goal.returns-in-None
returns-in-None c = sym (has_present-never c.args.first c.args.pages)
    ∙ ap (λ table. has_present (table_places table) c.args.first c.args.pages) (sym c.in-None.is)
