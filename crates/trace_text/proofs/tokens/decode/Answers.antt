use Rattle.std.proofs.Common.{rules, ◌*◌, sym, ap, ◌∙◌, arith}
use Rattle.trace_text.proofs.BytesLaws.{pair_read}
use Rattle.trace_text.proofs.tokens.decode.Goals as goal

pub loop-i-preserved : goal.loop-i-preserved
loop-i-preserved c = record {
  read =
      pair_read c.args.digits.now c.loop-i.list c.loop-i.i c.byte_spelled.result c.loop-i.are_spelled c.are_digits-are_spelled.result
      (c.requires ∙ ap (λ n. 2 * n) (sym c.loop-i.invariant.count)) (omega (arith, c.loop-i-test.true, c.loop-i.invariant.count))
      c.are_digits-are_spelled.ensures c.byte_spelled.ensures c.loop-i.invariant.read;
  count = search rules;
}
