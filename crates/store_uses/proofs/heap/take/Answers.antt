use Rattle.std.proofs.lemmas.Result.{err_from_is_err_and}
use Rattle.store_uses.proofs.Heaps.{fails_first_of_two, fails_second_of_two}
use Rattle.std.proofs.Common.{◌≡◌, ◌≤◌, ◌-◌, ◌*◌, ◌%◌, ◌^◌, sym, ◌∙◌, ap, subst, arith, pow_mono, Contains}
use Rattle.vm_base.specs.MemoryCalls.{IsInRange}
use Rattle.store_meaning.specs.Layout.{class_of, classes}
use Rattle.store_meaning.specs.HeapLayout.{IsHeap, committed}
use Rattle.page_heap.specs.HeapCalls.{plan_for}
use Rattle.store_uses.proofs.Heaps.{heap_touched, class_of-within, class_of-listed, plan_class, plan_at}
use Rattle.store_uses.proofs.heap.take.Goals as goal

pub overflow_sub-plan : goal.overflow_sub-plan
overflow_sub-plan g c =
    let given = c.plan-plan.ensures.plan c.requires.heap.heap c.requires.heap.is in
    let class : c.plan-plan.result.class ≡ class_of c.args.size =
    ap (λ p. p.class) given ∙ plan_class c.requires.heap.heap (class_of c.args.size) in
    omega (arith, class, (class_of-within c.args.size).0)

pub overflow_shl-plan : goal.overflow_shl-plan
overflow_shl-plan g c =
    let given = c.plan-plan.ensures.plan c.requires.heap.heap c.requires.heap.is in
    let class : c.plan-plan.result.class ≡ class_of c.args.size =
    ap (λ p. p.class) given ∙ plan_class c.requires.heap.heap (class_of c.args.size) in
    omega (arith, class, (class_of-within c.args.size).1)

pub touch-requires-clause-within : goal.touch-requires-clause-within
touch-requires-clause-within g c =
    let given = c.plan-plan.ensures.plan c.requires.heap.heap c.requires.heap.is in
    let class : c.plan-plan.result.class ≡ class_of c.args.size =
    ap (λ p. p.class) given ∙ plan_class c.requires.heap.heap (class_of c.args.size) in
    let low : c.plan-plan.result.class - 1 ≤ 21 = omega (arith, class, (class_of-within c.args.size).1) in
    let small : 2 ^ (c.plan-plan.result.class - 1) ≤ 2 ^ 21 = pow_mono low in
    omega (arith, small, c.plan-plan.ensures.within.1)

pub touch-requires-clause-few : goal.touch-requires-clause-few
touch-requires-clause-few g c =
    let given = c.plan-plan.ensures.plan c.requires.heap.heap c.requires.heap.is in
    let class : c.plan-plan.result.class ≡ class_of c.args.size =
    ap (λ p. p.class) given ∙ plan_class c.requires.heap.heap (class_of c.args.size) in
    let low : c.plan-plan.result.class - 1 ≤ 21 = omega (arith, class, (class_of-within c.args.size).1) in
    let small : 2 ^ (c.plan-plan.result.class - 1) ≤ 2 ^ 21 = pow_mono low in
    omega (arith, small)

pub commit-requires-clause-planned : goal.commit-requires-clause-planned
commit-requires-clause-planned g c =
    let heap = c.requires.heap.heap in
    let given = c.plan-plan.ensures.plan heap c.requires.heap.is in
    let class : c.plan-plan.result.class ≡ class_of c.args.size = ap (λ p. p.class) given ∙ plan_class heap (class_of c.args.size) in
    let here = subst (λ s. IsHeap s.mem heap) (sym c.plan-plan.ensures.same) c.requires.heap.is in
    record {
      room = omega (
        arith,
        c.in_ok-touch-2.ensures.keeps.room,
        c.in_ok-touch.ensures.keeps.room,
        ap
            (λ s. s.room) c.plan-plan.ensures.same,
        c.requires.heap.room,
      );
      heap = heap;
      is = heap_touched _ _ _ _ heap c.in_ok-touch-2.ensures.touched (heap_touched _ _ _ _ heap c.in_ok-touch.ensures.touched here);
      class = subst (Contains classes) (sym class) (class_of-listed c.args.size);
      given = given ∙ ap (plan_for heap) (sym class);
    }

pub commit-requires-clause-half : goal.commit-requires-clause-half
commit-requires-clause-half g c page inside =
    let given = c.plan-plan.ensures.plan c.requires.heap.heap c.requires.heap.is in
    let class : c.plan-plan.result.class ≡ class_of c.args.size =
    ap (λ p. p.class) given ∙ plan_class c.requires.heap.heap (class_of c.args.size) in
    let low : c.plan-plan.result.class - 1 ≤ 21 = omega (arith, class, (class_of-within c.args.size).1) in
    let small : 2 ^ (c.plan-plan.result.class - 1) ≤ 2 ^ 21 = pow_mono low in
    c.in_ok-touch-2.ensures.touched.keeps page (c.in_ok-touch.ensures.touched.ready page
    (subst (λ n. IsInRange page c.plan-plan.result.addr n) (omega (arith, small)) inside))

pub returns-clause-taken : goal.returns-clause-taken
returns-clause-taken g c heap is =
    let given = c.plan-plan.ensures.plan heap is in
    let class : c.plan-plan.result.class ≡ class_of c.args.size = ap (λ p. p.class) given ∙ plan_class heap (class_of c.args.size) in
    let here = subst (λ s. IsHeap s.mem heap) (sym c.plan-plan.ensures.same) is in (
      ap (λ p. p.addr) given ∙ plan_at heap (class_of c.args.size),
      subst (λ k. IsHeap (g.M.Memory.state c.commit.new.m).mem (committed heap k)) class
          (c.commit.ensures.heap heap
          (heap_touched _ _ _ _ heap c.in_ok-touch-2.ensures.touched (heap_touched _ _ _ _ heap c.in_ok-touch.ensures.touched here))),
    )

pub returns-in_err-touch-clause-refused : goal.returns-in_err-touch-clause-refused
returns-in_err-touch-clause-refused g c =
    let exit = err_from_is_err_and c.from_residual.result c.from_residual.ensures.1 in
    rw (exit.1, exit.2) (λ heap is.
    let given = c.plan-plan.ensures.plan heap is in
    let class : c.plan-plan.result.class ≡ class_of c.args.size = ap (λ p. p.class) given ∙ plan_class heap (class_of c.args.size) in
    let low : c.plan-plan.result.class - 1 ≤ 21 = omega (arith, class, (class_of-within c.args.size).1) in
    let small : 2 ^ (c.plan-plan.result.class - 1) ≤ 2 ^ 21 = pow_mono low in
    fails_first_of_two c.plan-plan.result heap c.args.size _ _ _ c.in_err-touch.field-0.0
    (1 * 2 ^ (c.plan-plan.result.class - 1) % 18446744073709551616) given c.plan-plan.ensures.same
    c.in_err-touch.ensures.fault (omega (arith, small)))

pub returns-in_err-touch-2-clause-refused : goal.returns-in_err-touch-2-clause-refused
returns-in_err-touch-2-clause-refused g c =
    let exit = err_from_is_err_and c.from_residual-in_err-touch-2.result c.from_residual-in_err-touch-2.ensures.1 in
    rw (exit.1, exit.2) (λ heap is.
    let given = c.plan-plan.ensures.plan heap is in
    let class : c.plan-plan.result.class ≡ class_of c.args.size = ap (λ p. p.class) given ∙ plan_class heap (class_of c.args.size) in
    let low : c.plan-plan.result.class - 1 ≤ 21 = omega (arith, class, (class_of-within c.args.size).1) in
    let small : 2 ^ (c.plan-plan.result.class - 1) ≤ 2 ^ 21 = pow_mono low in
    fails_second_of_two c.plan-plan.result heap c.args.size _ _ _ _ c.in_err-touch-2.field-0.0 _ given c.plan-plan.ensures.same
    c.in_ok-touch.ensures.touched (omega (arith, small)) c.in_err-touch-2.ensures.fault)
