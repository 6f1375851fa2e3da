use Rattle.std.proofs.Common.{◌≡◌, ap, arith}
use Rattle.leaf_cell.specs.CellView.{held_of}
use Rattle.kernel_rows.proofs.cells.write_around_a_fork.Goals as goal

pub fork_eager-requires-clause-held : goal.fork_eager-requires-clause-held
fork_eager-requires-clause-held c =
    let none : held_of c.in_ok-cell.cell ≡ 0 = ap held_of c.in_ok-cell.ensures.empty in
    omega (arith, none, c.touch.ensures.held, c.store.ensures.held)

pub touch-requires-2-clause-held : goal.touch-requires-2-clause-held
touch-requires-2-clause-held c =
    let none : held_of c.in_ok-cell.cell ≡ 0 = ap held_of c.in_ok-cell.ensures.empty in
    omega (arith, none, c.touch.ensures.held, c.store.ensures.held, c.fork_eager.ensures.held)

pub clear-requires-clause-held : goal.clear-requires-clause-held
clear-requires-clause-held c =
    let none : held_of c.in_ok-cell.cell ≡ 0 = ap held_of c.in_ok-cell.ensures.empty in
    omega (
      arith,
      none,
      c.touch.ensures.held,
      c.store.ensures.held,
      c.fork_eager.ensures.held,
      c.touch-2.ensures.held,
      c.store-2.ensures.held,
    )

pub drop_snap-requires-clause-held : goal.drop_snap-requires-clause-held
drop_snap-requires-clause-held c =
    let none : held_of c.in_ok-cell.cell ≡ 0 = ap held_of c.in_ok-cell.ensures.empty in
    omega (
      arith,
      none,
      c.touch.ensures.held,
      c.store.ensures.held,
      c.fork_eager.ensures.held,
      c.touch-2.ensures.held,
      c.store-2.ensures.held,
      c.clear.ensures.held,
    )
