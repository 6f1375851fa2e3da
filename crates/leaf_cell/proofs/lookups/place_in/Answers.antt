use Rattle.std.proofs.Common.{sym, ap, ◌∙◌}
use Rattle.kernel_meaning.specs.Leaves.{version_at}
use Rattle.leaf_cell.specs.Inside.{table_places}
use Rattle.leaf_cell.proofs.AbsentPages.{version_at-none}
use Rattle.leaf_cell.proofs.lookups.place_in.Goals as goal

pub returns-in-None : goal.returns-in-None
returns-in-None c = sym (ap (λ table. version_at (table_places table) c.args.page) c.in-None.is ∙ version_at-none c.args.page)
