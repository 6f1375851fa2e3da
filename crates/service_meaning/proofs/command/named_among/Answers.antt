-- The command at the place of the loop has another name.
use Rattle.std.proofs.Common.{sym, ◌∙◌}
use Rattle.std.specs.Str.{str_eq_ignore_ascii_case}
use Rattle.service_meaning.specs.Commands.{name_of}
use Rattle.service_meaning.proofs.Finding.{find_on}
use Rattle.service_meaning.proofs.command.named_among.Goals as goal

pub loop-command-preserved : goal.loop-command-preserved
loop-command-preserved c =
    find_on (λ given. str_eq_ignore_ascii_case c.args.name.now
    (name_of given)) c.args.commands.now c.loop-command.command-index _ c.loop-command-test.true
    (sym c.is_named.ensures ∙ c.if-is_named.false)
    ∙ c.loop-command.invariant
