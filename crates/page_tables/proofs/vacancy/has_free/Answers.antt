use Rattle.std.proofs.Common.{◌≡◌, ◌≤◌, sym, ap, arith, false, nat_lt}
use Rattle.std.specs.Prelude.{not}
use Rattle.std.proofs.lemmas.Bool.Decides.{nat_tests}
use Rattle.page_tables.proofs.Vacancies.{owned-beyond}
use Rattle.page_tables.proofs.vacancy.has_free.Goals as goal

pub returns-then-free-wanted : goal.returns-then-free-wanted
returns-then-free-wanted c = λ free counted.
    let enough : c.args.wanted ≤ free = omega (
      arith,
      owned-beyond c.args.slots.now c.loop-slot.slot-index,
      counted,
      c.loop-slot.invariant.counted,
      c.if-free-wanted.true,
      c.loop-slot-test.true,
      c.loop-slot.auto.slot-index-end,
    ) in
    let none : nat_lt free c.args.wanted ≡ false = grind (arith, nat_tests) in
    sym (ap not none)
