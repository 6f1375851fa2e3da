use Rattle.std.proofs.Common.{◌≡◌, drop}
use Rattle.std.specs.List.{find}
use Rattle.std.specs.Str.{str_eq_ignore_ascii_case}
use Rattle.service_meaning.specs.Commands.{name_of}
use Rattle.service_meaning.proofs.command.named_among.Given as goal

-- what is found is found among the commands that are left
abbrev pub invariant-loop-command : goal.invariant-loop-command
invariant-loop-command l = find (λ given. str_eq_ignore_ascii_case l.name (name_of given)) (drop l.command-index l.commands)
    ≡ find (λ given. str_eq_ignore_ascii_case l.name (name_of given)) l.commands
