use Rattle.std.proofs.Common.{sym}
use Rattle.trace_text.proofs.Parts.{parts_at-none, parts_at-slices}
use Rattle.trace_text.proofs.tokens.parts_at.Goals as goal

pub returns-in_err-at : goal.returns-in_err-at
returns-in_err-at c =
    rw c.from_residual.ensures (sym (parts_at-none c.args.byte c.args.text.now (sym c.in_err-at.ensures.place)))

pub returns : goal.returns
returns c = parts_at-slices c.args.byte c.args.text.now c.in_ok-at.at c.in_ok-at.ensures.place
