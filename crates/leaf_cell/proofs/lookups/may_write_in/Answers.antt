use Rattle.std.proofs.Common.{sym, ap, ◌∙◌}
use Rattle.leaf_cell.specs.Inside.{table_writable}
use Rattle.leaf_cell.specs.Writable.{writable_at}
use Rattle.leaf_cell.proofs.WritablePages.{never-writable}
use Rattle.leaf_cell.proofs.lookups.may_write_in.Goals as goal

pub returns-in-None : goal.returns-in-None
returns-in-None c = sym (ap (λ table. writable_at (table_writable table) c.args.page) c.in-None.is ∙ never-writable c.args.page)
