use Rattle.std.proofs.Common.{◌∙◌, ap, sym}
use Rattle.std.specs.Prelude.{count_by, is_some}
use Rattle.leaf_cell.specs.Inside.{table_places}
use Rattle.leaf_cell.proofs.SameReads.{count-stands}
use Rattle.leaf_cell.proofs.cell.Cell.pages.Goals as goal

pub returns-in-Some-clause-account : goal.returns-in-Some-clause-account
returns-in-Some-clause-account c = λ account stands. c.pages.ensures ∙ ap (λ table. count_by is_some (table_places table)) (sym c.in-Some.is)
    ∙ ap (λ view. count_by is_some view.leaves.parent) c.self.view_is ∙ count-stands c.args.self.now account stands

pub returns-in-None-clause-account : goal.returns-in-None-clause-account
returns-in-None-clause-account c = λ account stands. ap (λ table. count_by is_some (table_places table)) (sym c.in-None.is)
    ∙ ap (λ view. count_by is_some view.leaves.parent) c.self.view_is ∙ count-stands c.args.self.now account stands
