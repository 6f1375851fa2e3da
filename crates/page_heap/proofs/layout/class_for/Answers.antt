use Rattle.std.proofs.Common.{◌≡◌, ◌^◌, ◌<◌, ◌≤◌, sym, ◌∙◌, arith, pow_mono}
use Rattle.page_heap.proofs.Classes.{class_from-here, class_from-above, class_from-last}
use Rattle.page_heap.proofs.layout.class_for.Goals as goal

pub loop-class-preserved : goal.loop-class-preserved
loop-class-preserved c =
    let low : c.loop-class.class ≤ 21 = omega (arith, c.loop-class.invariant.within) in
    let small : 2 ^ c.loop-class.class ≤ 2 ^ 21 = pow_mono low in
    let more : 2 ^ c.loop-class.class < c.args.size = omega (arith, small, c.if-class-size.true) in
    record {
      least = omega (arith, c.loop-class.invariant.least);
      within = omega (arith, c.loop-class-test.true);
      from = c.loop-class.invariant.from ∙ class_from-above c.loop-class.class c.args.size c.loop-class.invariant.within more;
    }

pub returns-else-class-size-clause-least : goal.returns-else-class-size-clause-least
returns-else-class-size-clause-least c =
    let low : c.loop-class.class ≤ 21 = omega (arith, c.loop-class.invariant.within) in
    let small : 2 ^ c.loop-class.class ≤ 2 ^ 21 = pow_mono low in
    let holds : c.args.size ≤ 2 ^ c.loop-class.class = omega (arith, small, c.if-class-size.false) in
    sym (c.loop-class.invariant.from ∙ class_from-here c.loop-class.class c.args.size c.loop-class.invariant.within holds)

pub returns-after-loop-class-clause-least : goal.returns-after-loop-class-clause-least
returns-after-loop-class-clause-least c =
    let last : c.loop-class.class ≡ 21 = omega (arith, c.loop-class-test.false, c.loop-class.invariant.within) in
    sym (c.loop-class.invariant.from ∙ class_from-last c.loop-class.class c.args.size last)
