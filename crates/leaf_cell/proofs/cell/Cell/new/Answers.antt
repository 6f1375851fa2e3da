use Rattle.std.proofs.Common.{ap, sym, subst, None}
use Rattle.kernel_meaning.specs.CellAccount.{empty_account}
use Rattle.leaf_cell.specs.Inside.{cell_value}
use Rattle.leaf_cell.specs.Standing.{StandsFor}
use Rattle.leaf_cell.proofs.NewCell.{inside_new, stands_new}
use Rattle.leaf_cell.proofs.cell.Cell.new.Goals as goal

pub invariant_of-result : goal.invariant_of-result
invariant_of-result c = inside_new c.in_ok-frames.frames c.in_ok-frames.ensures

pub returns-clause-stands : goal.returns-clause-stands
returns-clause-stands c = subst (λ frames. StandsFor (cell_value None None frames) empty_account) (sym c.in_ok-frames.ensures) stands_new

pub returns-clause-empty : goal.returns-clause-empty
returns-clause-empty c = ap (cell_value None None) c.in_ok-frames.ensures
