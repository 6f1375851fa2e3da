use Rattle.std.proofs.Common.{subst, arith, ℕ}
use Rattle.resp_text.specs.Fronts.{HasFrontLine}
use Rattle.resp_text.proofs.FrontTexts.{front_word}
use Rattle.resp_text.proofs.front.front_word.Goals as goal

pub returns : goal.returns
returns c =
    let line = c.in_ok-line.line in
    front_word c.args.text.now c.args.room line
    (subst (λ (most : ℕ). HasFrontLine c.args.text.now 36 most line) c.min.ensures
    c.in_ok-line.ensures) (omega (arith, c.if-text-end.false))
    c.if-text-end-ne13.false c.if-text-end-ne10.false
