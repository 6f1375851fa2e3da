-- The directory has no cell and no table.
use Rattle.std.proofs.Common.{◌≡◌, ℕ, ◌∙◌, ap, arith}
use Rattle.std.specs.Ordering.{nat_cmp}
use Rattle.std.specs.FinMap.{get, len, get-empty, len-empty}
use Rattle.table_levels.specs.Cells.{tables_of}
use Rattle.table_levels.proofs.Counting.{tables_of-empty}
use Rattle.kernel_rows.proofs.directories.take_out.Goals as goal

pub insert-requires-clause-absent : goal.insert-requires-clause-absent
insert-requires-clause-absent c = ap (λ m. get m c.args.cell) c.in_ok-directory.ensures ∙ get-empty nat_cmp c.args.cell

pub insert-requires-clause-fewer : goal.insert-requires-clause-fewer
insert-requires-clause-fewer c = let none : len c.in_ok-directory.directory ≡ 0 = ap len c.in_ok-directory.ensures ∙ len-empty nat_cmp ℕ in omega arith

pub insert-requires-clause-lent : goal.insert-requires-clause-lent
insert-requires-clause-lent c = let none : tables_of c.in_ok-directory.directory ≡ 0 = ap tables_of c.in_ok-directory.ensures ∙ tables_of-empty in omega arith
