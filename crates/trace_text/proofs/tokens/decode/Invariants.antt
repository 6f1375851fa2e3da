use Rattle.std.proofs.Common.{◌≡◌, ◌*◌, length, take, drop}
use Rattle.trace_text.specs.ScriptReading.{bytes_of}
use Rattle.trace_text.proofs.BytesLaws.{behind_if}
use Rattle.trace_text.proofs.tokens.decode.Given as goal

-- the bytes so far, if all pairs spell one, stand in front of those of the rest
abbrev pub invariant-loop-i : goal.invariant-loop-i
invariant-loop-i l = record {
  read : behind_if l.are_spelled (take l.i l.list) (bytes_of (drop (2 * l.i) l.digits)) ≡ bytes_of l.digits;
  count : length l.list ≡ length l.initial.list;
}
