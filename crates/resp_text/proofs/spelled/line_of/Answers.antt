use Rattle.std.proofs.Common.{ℕ, ◌+◌, ◌*◌, subst, sym, arith, rules}
use Rattle.resp_text.proofs.Texts.{StandsInLine, in_text, line_goes_on, digit_fits, line_ends}
use Rattle.resp_text.proofs.spelled.line_of.Goals as goal

pub bounds-text-at : goal.bounds-text-at
bounds-text-at c = in_text c.args.text.now c.loop-at.at c.loop-at.number c.requires
    c.loop-at.invariant

pub bounds-text-at-in-loop-at : goal.bounds-text-at-in-loop-at
bounds-text-at-in-loop-at c = in_text c.args.text.now c.loop-at.at c.loop-at.number c.requires
    c.loop-at.invariant

pub overflow_mul-number : goal.overflow_mul-number
overflow_mul-number c =
    let within = in_text c.args.text.now c.loop-at.at c.loop-at.number c.requires
    c.loop-at.invariant in
    omega (
      arith,
      digit_fits c.args.text.now c.loop-at.at c.loop-at.number within
          c.loop-at-test.true c.requires c.loop-at.invariant,
    )

pub overflow_sub-text : goal.overflow_sub-text
overflow_sub-text c =
    let within = in_text c.args.text.now c.loop-at.at c.loop-at.number c.requires
    c.loop-at.invariant in
    (digit_fits c.args.text.now c.loop-at.at c.loop-at.number within c.loop-at-test.true c.requires
    c.loop-at.invariant).0

pub overflow_add-number : goal.overflow_add-number
overflow_add-number c =
    let within = in_text c.args.text.now c.loop-at.at c.loop-at.number c.requires
    c.loop-at.invariant in
    omega (
      arith,
      c.from.ensures,
      digit_fits c.args.text.now c.loop-at.at c.loop-at.number within
          c.loop-at-test.true c.requires c.loop-at.invariant,
    )

pub overflow_add-at : goal.overflow_add-at
overflow_add-at c =
    let within = in_text c.args.text.now c.loop-at.at c.loop-at.number c.requires
    c.loop-at.invariant in
    search rules

pub loop-at-smaller : goal.loop-at-smaller
loop-at-smaller c =
    let within = in_text c.args.text.now c.loop-at.at c.loop-at.number c.requires
    c.loop-at.invariant in
    omega (arith, within)

pub loop-at-preserved : goal.loop-at-preserved
loop-at-preserved c =
    let within = in_text c.args.text.now c.loop-at.at c.loop-at.number c.requires
    c.loop-at.invariant in
    subst (λ (d : ℕ). StandsInLine c.args.text.now (c.loop-at.at + 1)
    (c.loop-at.number * 10 + d)) (sym c.from.ensures)
    (line_goes_on c.args.text.now c.loop-at.at c.loop-at.number within c.loop-at-test.true
    c.loop-at.invariant)

pub returns : goal.returns
returns c =
    let within = in_text c.args.text.now c.loop-at.at c.loop-at.number c.requires
    c.loop-at.invariant in
    line_ends c.args.text.now c.loop-at.at c.loop-at.number within c.loop-at-test.false
    c.loop-at.invariant
