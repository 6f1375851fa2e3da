use Rattle.std.proofs.Common.{◌≡◌, ◌<◌, ◌^◌, drop}
use Rattle.trace_text.specs.ScriptReading.{digits_read}
use Rattle.trace_text.proofs.number.digits.Given as goal

abbrev pub invariant-loop-byte : goal.invariant-loop-byte
invariant-loop-byte l =
    (digits_read l.base l.number (drop l.byte-index l.token) ≡ digits_read l.base 0 l.token) × (l.number < 2 ^ 48)
