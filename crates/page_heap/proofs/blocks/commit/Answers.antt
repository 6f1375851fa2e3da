use Rattle.std.proofs.Common.{◌≡◌, ◌≤◌, ◌+◌, ◌^◌, sym, ◌∙◌, ap, subst, arith, pow_mono}
use Rattle.byteorder.specs.Endian.{big_bytes}
use Rattle.std.proofs.lemmas.Bool.{cond-true, cond-false}
use Rattle.vm_base.specs.MemoryState.{MemoryState}
use Rattle.vm_base.specs.MemoryCalls.{after_store}
use Rattle.store_meaning.specs.Layout.{top_field, list_field, word_at}
use Rattle.store_meaning.specs.HeapLayout.{Heap, IsHeap, ArePresent, committed}
use Rattle.store_meaning.proofs.Lists.{class_within}
use Rattle.page_heap.specs.declared.planned.Plan.{Plan}
use Rattle.page_heap.specs.HeapCalls.{IsPlanned, plan_for, commit_store}
use Rattle.page_heap.proofs.Plans.{same_plan, plan_present, plan_below, commits}
use Rattle.page_heap.proofs.blocks.commit.Goals as goal

-- the plan is that of each heap that the memory has
plan_of_heap : (state : MemoryState) (plan : Plan) (heap : Heap) → IsPlanned state plan → IsHeap state.mem heap
    → plan ≡ plan_for heap plan.class
plan_of_heap state plan heap planned is = planned.given ∙ same_plan state.mem planned.heap heap plan.class planned.is is planned.class

pub read_word-next-requires-clause-present : goal.read_word-next-requires-clause-present
read_word-next-requires-clause-present g c =
    let planned = c.requires.planned in
    let mem = (g.M.Memory.state c.args.m.now).mem in
    subst (λ p. ArePresent mem p.addr 8) (sym planned.given)
    (plan_present mem planned.heap c.args.plan.now.class planned.is planned.class (sym (ap (λ p. p.fresh) planned.given) ∙ c.if-plan.false))

pub read_word-next-requires-clause-within : goal.read_word-next-requires-clause-within
read_word-next-requires-clause-within g c =
    let planned = c.requires.planned in
    let mem = (g.M.Memory.state c.args.m.now).mem in
    omega (arith, plan_below mem planned.heap c.args.plan.now.class planned.is planned.class, ap (λ p. p.addr) planned.given)

pub returns-then-plan-clause-stored : goal.returns-then-plan-clause-stored
returns-then-plan-clause-stored g c =
    let state = g.M.Memory.state c.args.m.now in
    let plan = c.args.plan.now in
    let low : plan.class ≤ 21 = omega (arith, (class_within plan.class c.requires.planned.class).1) in
    let small : 2 ^ plan.class ≤ 2 ^ 21 = pow_mono low in
    c.store_word.ensures.stored
    ∙ ap (λ w. after_store state top_field (big_bytes 8 w)) (omega (arith, small))
    ∙ sym (cond-true plan.fresh (after_store state top_field (big_bytes 8 (plan.addr + 2 ^ plan.class)))
    (after_store state (list_field plan.class) (big_bytes 8 (word_at state.mem plan.addr))) c.if-plan.true)

pub returns-then-plan-clause-heap : goal.returns-then-plan-clause-heap
returns-then-plan-clause-heap g c heap is =
    let state = g.M.Memory.state c.args.m.now in
    let planned = c.requires.planned in
    let plan = c.args.plan.now in
    subst (λ s. IsHeap s.mem (committed heap plan.class)) (sym (returns-then-plan-clause-stored g c))
    (commits state heap plan c.store_word.ensures.keeps.before planned.room is planned.class (plan_of_heap state plan heap planned is)
    c.requires.header c.requires.half)

pub returns-else-plan-clause-heap : goal.returns-else-plan-clause-heap
returns-else-plan-clause-heap g c heap is =
    let state = g.M.Memory.state c.args.m.now in
    let planned = c.requires.planned in
    let plan = c.args.plan.now in
    let stored : g.M.Memory.state c.store_word-else-plan.new.m ≡ commit_store state plan =
    c.store_word-else-plan.ensures.stored
    ∙ ap (λ s. after_store s c.list_field_of.result (big_bytes 8 c.read_word-next.result)) c.read_word-next.ensures.same
    ∙ ap (λ a. after_store state a (big_bytes 8 c.read_word-next.result)) c.list_field_of.ensures
    ∙ ap (λ w. after_store state (list_field plan.class) (big_bytes 8 w)) c.read_word-next.ensures.word
    ∙ sym (cond-false plan.fresh (after_store state top_field (big_bytes 8 (plan.addr + 2 ^ plan.class)))
    (after_store state (list_field plan.class) (big_bytes 8 (word_at state.mem plan.addr))) c.if-plan.false) in
    subst (λ s. IsHeap s.mem (committed heap plan.class)) (sym stored)
    (commits state heap plan c.read_word-next.ensures.sound planned.room is planned.class (plan_of_heap state plan heap planned is)
    c.requires.header c.requires.half)

pub returns-else-plan-clause-went : goal.returns-else-plan-clause-went
returns-else-plan-clause-went g c = g.met.M.Memory.went_on _ _ _ c.read_word-next.ensures.went c.store_word-else-plan.ensures.went
