use Rattle.std.proofs.Common.{◌<◌, ◌+◌, ◌++◌, [], List, ℕ, length, take, drop, get_or, arith}
use Rattle.std.specs.List.{flat_map}
use Rattle.image_text.specs.Image.{pair_text}
use Rattle.image_text.proofs.Writes.{AddsPrefix-behind, failed_front, text_split}
use Rattle.image_text.proofs.write.write_pairs.Goals as goal

pub returns-in_err-write_pair-clause-failed : goal.returns-in_err-write_pair-clause-failed
returns-in_err-write_pair-clause-failed g c =
    let pairs = c.args.pairs.now in
    let i = c.loop-i.i in
    let none : List ℕ × List ℕ = ([], []) in
    let within : i < length pairs = omega (arith, c.loop-i-test.true, c.len-i-end.ensures.count) in
    let before : List ℕ = flat_map pair_text (take i pairs) in
    let pair : List ℕ = pair_text (get_or pairs i none) in
    failed_front c.from_residual.result (g.K.Sink.written c.args.sink.now)
    (g.K.Sink.written c.write_pair.new.sink) (before ++ pair) (flat_map pair_text (drop
    (i + 1) pairs)) (flat_map pair_text pairs)
    (text_split pairs i none within)
    (AddsPrefix-behind (g.K.Sink.written c.args.sink.now) (g.K.Sink.written c.loop-i.sink)
    (g.K.Sink.written c.write_pair.new.sink) before pair c.loop-i.invariant.written
    c.in_err-write_pair.ensures.failed)
