use Rattle.std.proofs.Common.{◌≡◌, ◌++◌, codes, length, take}
use Rattle.hex.specs.Hex.{encode_lower}
use Rattle.trace_text.proofs.printer.push_bytes.Given as goal

-- the digits of the rest are all that the text lacks
abbrev pub invariant-loop-rest : goal.invariant-loop-rest
invariant-loop-rest l = record {
  pushed : l.out ++ (encode_lower l.rest ++ codes "\n") ≡ l.initial.out ++ (encode_lower l.bytes ++ codes "\n");
  front : take (length l.initial.out) l.out ≡ l.initial.out;
}

abbrev pub decreases-loop-rest : goal.decreases-loop-rest
decreases-loop-rest l = length l.rest
