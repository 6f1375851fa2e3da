-- One cell more, or none.
use Rattle.std.proofs.Common.{◌≡◌, ℕ, ◌+◌, ◌≤◌, Ok, Err, OnOk, OnErr, Result, ap, subst, sym, arith, inl, inr}
use Rattle.std.specs.Cmp.{nat_cmp_total}
use Rattle.std.specs.FinMap.{len, insert, contains_key, len-insert}
use Rattle.std.proofs.lemmas.Bool.{cases_Bool, cond-true, cond-false}
use Rattle.vm_base.specs.declared.refusals.Refused.{Refused}
use Rattle.table_levels.specs.Cells.{CellMap}
use Rattle.kernel_rows.proofs.directories.add.Goals as goal

one_more : (m : CellMap) (cell slot : ℕ) → len (insert m cell slot) ≤ len m + 1
one_more m cell slot = elim (cases_Bool (contains_key m cell)) [
  | inl there ↦ omega (arith, len-insert nat_cmp_total m cell slot, cond-true (contains_key m cell) (len m) (len m + 1) there)
  | inr absent ↦ omega (arith, len-insert nat_cmp_total m cell slot, cond-false (contains_key m cell) (len m) (len m + 1) absent)
]

few_more : {X : Type 0} (m new : CellMap) (cell slot : ℕ) (answer : Result X Refused) → OnOk answer (new ≡ insert m cell slot) → OnErr answer (new ≡ m) → len new ≤ len m + 1
few_more m new cell slot (Ok done) added kept = subst (λ n. len n ≤ len m + 1) (sym added) (one_more m cell slot)
few_more m new cell slot (Err refused) added kept = omega (arith, ap len kept)

pub returns-then-from-supply : goal.returns-then-from-supply
returns-then-from-supply c = few_more c.args.directory.now c.insert.new.self c.args.cell _ c.insert.result c.insert.ensures.added c.insert.ensures.kept
