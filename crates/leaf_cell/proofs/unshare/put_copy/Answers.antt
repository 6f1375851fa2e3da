use Rattle.std.proofs.Common.{◌∙◌, sym, ap}
use Rattle.kernel_meaning.specs.Leaves.{no_versions, version_at}
use Rattle.leaf_cell.specs.Inside.{table_places}
use Rattle.leaf_cell.proofs.NewCell.{none_is_not_some}
use Rattle.leaf_cell.proofs.AbsentPages.{version_at-none}
use Rattle.leaf_cell.proofs.unshare.put_copy.Goals as goal

pub returns-in_default-clause-put : goal.returns-in_default-clause-put
returns-in_default-clause-put c = none_is_not_some (version_at no_versions c.args.page) c.args.place (version_at-none c.args.page)
    (ap (λ table. version_at (table_places table) c.args.page) (sym c.in_default.is) ∙ c.requires.there)

pub returns-in_default-clause-table : goal.returns-in_default-clause-table
returns-in_default-clause-table c = none_is_not_some (version_at no_versions c.args.page) c.args.place (version_at-none c.args.page)
    (ap (λ table. version_at (table_places table) c.args.page) (sym c.in_default.is) ∙ c.requires.there)

pub returns-in_default-clause-writable : goal.returns-in_default-clause-writable
returns-in_default-clause-writable c = none_is_not_some (version_at no_versions c.args.page) c.args.place (version_at-none c.args.page)
    (ap (λ table. version_at (table_places table) c.args.page) (sym c.in_default.is) ∙ c.requires.there)
