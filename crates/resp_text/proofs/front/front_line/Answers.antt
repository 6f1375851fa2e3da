use Rattle.std.proofs.Common.{◌≡◌, ◌≤◌, ◌<◌, length, get_or, sym, ap, ◌∙◌, arith, rules, Some}
use Rattle.std.proofs.lemmas.Bool.{eqb-false}
use Rattle.std.proofs.lemmas.List.{length-drop}
use Rattle.resp_text.specs.Residual.{digit_behind}
use Rattle.resp_text.proofs.FrontTexts.{digits_more, front_line}
use Rattle.resp_text.proofs.front.front_line.Goals.{then-at-gt1, else-at-gt1}
use Rattle.resp_text.proofs.front.front_line.Goals as goal

pub loop-at-preserved : goal.loop-at-preserved
loop-at-preserved c =
    let within : c.loop-at.at < length c.split_at.result.1.now = omega (arith, c.loop-at-test.true) in
    let digit : digit_behind c.loop-at.number (get_or c.split_at.result.1.now c.loop-at.at 0)
    c.args.most ≡ Some c.in-Some.next = search rules in
    let more = digits_more c.split_at.result.1.now c.loop-at.at c.loop-at.number c.in-Some.next
    c.args.most within digit c.loop-at.invariant.goes in
    record { within = omega (arith, within); few = more.1; goes = more.0 }

pub returns : goal.returns
returns c =
    let digits = c.split_at.result.1.now in
    let some : 0 < length c.args.text.now = omega (
      arith,
      c.if-digits-at.false,
      ap length c.split_at.ensures.back,
      length-drop 1 c.args.text.now,
    ) in
    let alone : get_or digits 0 0 ≡ 48 → c.loop-at.at ≤ 1 = λ zero. elim c.if-at-gt1.branch [
      | then-at-gt1 w ↦ absurd (eqb-false (get_or digits 0 0) 48 (sym w.value-is
          ∙ c.if-digits-eq48.false) zero)
      | else-at-gt1 w ↦ w.if-at-gt1.false
    ] in
    front_line c.args.text.now digits c.args.first c.loop-at.at c.loop-at.number c.args.most some
    c.if-text-first.false c.split_at.ensures.back c.if-digits-at.false c.loop-at.invariant.few
    c.if-digits-at-ne13.false c.if-digits-at-ne10.false (omega (arith, c.if-at-eq0.false)) alone c.loop-at.invariant.goes
