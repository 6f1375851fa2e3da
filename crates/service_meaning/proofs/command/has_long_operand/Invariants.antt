use Rattle.std.proofs.Common.{◌≡◌, drop}
use Rattle.std.specs.List.{list_any}
use Rattle.service_meaning.specs.Commands.{is_long}
use Rattle.service_meaning.proofs.command.has_long_operand.Given as goal

-- no operand before this one is too long
abbrev pub invariant-loop-place : goal.invariant-loop-place
invariant-loop-place l = list_any is_long (drop l.place l.request) ≡ list_any is_long (drop 1 l.request)
