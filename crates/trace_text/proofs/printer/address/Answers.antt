use Rattle.std.proofs.Common.{rules, ◌≡◌, ◌++◌, codes, sym, ◌∙◌}
use Rattle.std.specs.String.{string_bytes}
use Rattle.trace_text.specs.ScriptGrammar.{hexadecimal}
use Rattle.trace_text.proofs.Digits.{hexadecimal-zero, hexadecimal-some}
use Rattle.trace_text.proofs.printer.address.Goals as goal

pub returns-in_ok-format : goal.returns-in_ok-format
returns-in_ok-format c =
    let said : string_bytes c.in_ok-format.field-0 ≡ codes "0" = search rules in
    said ∙ sym (hexadecimal-zero c.args.page c.if-page-eq0.true)

pub returns-in_ok-format-2 : goal.returns-in_ok-format-2
returns-in_ok-format-2 c =
    let said : string_bytes c.in_ok-format-2.field-0 ≡ hexadecimal c.args.page ++ codes "000" = search rules in
    said ∙ sym (hexadecimal-some c.args.page c.if-page-eq0.false c.ranges.page.fits)
