-- There are two cells at most.
use Rattle.std.proofs.Common.{◌≡◌, ℕ, ◌∙◌, ap, arith}
use Rattle.std.specs.Ordering.{nat_cmp}
use Rattle.std.specs.FinMap.{len, len-empty}
use Rattle.kernel_rows.proofs.directories.copy.Goals as goal

pub add-requires-clause-fewer : goal.add-requires-clause-fewer
add-requires-clause-fewer c = let none : len c.in_ok-source.source ≡ 0 = ap len c.in_ok-source.ensures ∙ len-empty nat_cmp ℕ in omega arith

pub add-requires-2-clause-fewer : goal.add-requires-2-clause-fewer
add-requires-2-clause-fewer c = let none : len c.in_ok-source.source ≡ 0 = ap len c.in_ok-source.ensures ∙ len-empty nat_cmp ℕ in omega (arith, c.add.ensures)
