use Rattle.std.proofs.Common.{rules, ◌≡◌}
use Rattle.hex.specs.Hex.{encode_lower}
use Rattle.trace_text.proofs.BytesLaws.{line_is}
use Rattle.trace_text.proofs.printer.line_of.Goals as goal

pub returns : goal.returns
returns c =
    let digits : c.encode_to_slice-printed.new.output ≡ encode_lower c.args.piece.now = search rules in
    line_is c.args.piece.now c.encode_to_slice-printed.new.output digits
