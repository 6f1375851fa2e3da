use Rattle.std.proofs.Common.{◌≡◌, ◌≤◌, ◌+◌, ◌^◌, false, true, Contains, sym, ◌∙◌, ap, subst, arith}
use Rattle.store_meaning.specs.Layout.{classes, top_field, list_field, word_at, heap_at, heap_end}
use Rattle.page_heap.specs.HeapCalls.{plan_for}
use Rattle.page_heap.proofs.Plans.{planned_top, planned_free, plan_fits, class_listed}
use Rattle.page_heap.proofs.blocks.plan.Goals as goal

pub returns-then-first-ne0-clause-plan : goal.returns-then-first-ne0-clause-plan
returns-then-first-ne0-clause-plan g c heap is =
    let class = c.class_for-class.result in
    let mem = (g.M.Memory.state c.args.m.now).mem in
    let in_classes : Contains classes class = class_listed class c.class_for-class.ensures.within.0 c.class_for-class.ensures.within.1 in
    let word : c.read_word-first.result ≡ word_at mem (list_field class) =
    c.read_word-first.ensures.word ∙ ap (word_at mem) c.list_field_of.ensures in
    ap (λ a. record { addr = a; class = class; fresh = false }) word
    ∙ sym (planned_free mem heap class is in_classes (λ none. c.if-first-ne0.true (word ∙ none)))
    ∙ ap (plan_for heap) c.class_for-class.ensures.least

pub returns-then-first-ne0-clause-within : goal.returns-then-first-ne0-clause-within
returns-then-first-ne0-clause-within g c =
    let class = c.class_for-class.result in
    let mem = (g.M.Memory.state c.args.m.now).mem in
    let heap = c.requires.heap.heap in
    let in_classes : Contains classes class = class_listed class c.class_for-class.ensures.within.0 c.class_for-class.ensures.within.1 in
    let word : c.read_word-first.result ≡ word_at mem (list_field class) =
    c.read_word-first.ensures.word ∙ ap (word_at mem) c.list_field_of.ensures in
    let given = planned_free mem heap class c.requires.heap.is in_classes (λ none. c.if-first-ne0.true (word ∙ none)) in
    let at : (plan_for heap class).addr ≡ c.read_word-first.result = ap (λ p. p.addr) given ∙ sym word in
    subst (λ a. (heap_at ≤ a) × (a + 2 ^ class ≤ heap_end)) at
    (plan_fits mem heap class c.requires.heap.is in_classes (omega (arith, c.read_word-first.ensures.sound.room, c.requires.heap.room)))

pub returns-clause-plan : goal.returns-clause-plan
returns-clause-plan g c heap is =
    let class = c.class_for-class.result in
    let mem = (g.M.Memory.state c.args.m.now).mem in
    let in_classes : Contains classes class = class_listed class c.class_for-class.ensures.within.0 c.class_for-class.ensures.within.1 in
    let word : c.read_word-first.result ≡ word_at mem (list_field class) =
    c.read_word-first.ensures.word ∙ ap (word_at mem) c.list_field_of.ensures in
    let top : c.read_word-top.result ≡ word_at mem top_field =
    c.read_word-top.ensures.word ∙ ap (λ s. word_at s.mem top_field) c.read_word-first.ensures.same in
    ap (λ a. record { addr = a; class = class; fresh = true }) top
    ∙ sym (planned_top mem heap class is in_classes (sym word ∙ c.if-first-ne0.false))
    ∙ ap (plan_for heap) c.class_for-class.ensures.least

pub returns-clause-within : goal.returns-clause-within
returns-clause-within g c =
    let class = c.class_for-class.result in
    let mem = (g.M.Memory.state c.args.m.now).mem in
    let heap = c.requires.heap.heap in
    let in_classes : Contains classes class = class_listed class c.class_for-class.ensures.within.0 c.class_for-class.ensures.within.1 in
    let word : c.read_word-first.result ≡ word_at mem (list_field class) =
    c.read_word-first.ensures.word ∙ ap (word_at mem) c.list_field_of.ensures in
    let top : c.read_word-top.result ≡ word_at mem top_field =
    c.read_word-top.ensures.word ∙ ap (λ s. word_at s.mem top_field) c.read_word-first.ensures.same in
    let given = planned_top mem heap class c.requires.heap.is in_classes (sym word ∙ c.if-first-ne0.false) in
    let at : (plan_for heap class).addr ≡ c.read_word-top.result = ap (λ p. p.addr) given ∙ sym top in
    subst (λ a. (heap_at ≤ a) × (a + 2 ^ class ≤ heap_end)) at
    (plan_fits mem heap class c.requires.heap.is in_classes (omega (arith, c.read_word-first.ensures.sound.room, c.requires.heap.room)))
