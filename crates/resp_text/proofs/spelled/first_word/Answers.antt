use Rattle.std.proofs.Common.{ℕ, List, length, take, drop, subst, sym, ap, ◌∙◌, arith}
use Rattle.resp_text.specs.Grammar.{AreWords}
use Rattle.resp_text.proofs.Texts.{word_first, some_word, word_line, word_parts}
use Rattle.resp_text.proofs.spelled.first_word.Goals as goal

pub line_of-line-requires : goal.line_of-line-requires
line_of-line-requires c = word_line c.args.text.now c.requires

pub split_at-requires : goal.split_at-requires
split_at-requires c =
    let w = some_word c.args.text.now c.requires in
    let line = c.line_of-line.ensures (length w.0) w.2.digits _ w.2.line in
    (word_parts c.args.text.now w.0 w.1 c.line_of-line.result.length c.line_of-line.result.number
    w.2 line.0 line.1).line_fits

pub split_at-requires-2 : goal.split_at-requires-2
split_at-requires-2 c =
    let w = some_word c.args.text.now c.requires in
    let line = c.line_of-line.ensures (length w.0) w.2.digits _ w.2.line in
    let parts = word_parts c.args.text.now w.0 w.1 c.line_of-line.result.length
    c.line_of-line.result.number w.2 line.0 line.1 in
    omega (arith, parts.word_fits, ap length c.split_at.ensures.back)

pub split_at-requires-3 : goal.split_at-requires-3
split_at-requires-3 c =
    let w = some_word c.args.text.now c.requires in
    let line = c.line_of-line.ensures (length w.0) w.2.digits _ w.2.line in
    let parts = word_parts c.args.text.now w.0 w.1 c.line_of-line.result.length
    c.line_of-line.result.number w.2 line.0 line.1 in
    omega (
      arith,
      parts.end_fits,
      ap length (c.split_at-2.ensures.back
          ∙ ap (drop c.line_of-line.result.number) c.split_at.ensures.back),
    )

pub returns-clause-split : goal.returns-clause-split
returns-clause-split c word words spelled =
    let w = word_first c.args.text.now word words spelled in
    let line = c.line_of-line.ensures (length word) w.digits _ w.line in
    let parts = word_parts c.args.text.now word words c.line_of-line.result.length
    c.line_of-line.result.number w line.0 line.1 in (
      c.split_at-2.ensures.front ∙ ap (take c.line_of-line.result.number) c.split_at.ensures.back ∙
          parts.word_is,
      subst (λ (t : List ℕ). AreWords t words) (sym (c.split_at-3.ensures.back
          ∙ ap (drop 2) (c.split_at-2.ensures.back
          ∙ ap (drop c.line_of-line.result.number) c.split_at.ensures.back))) parts.more,
    )

pub returns-clause-shorter : goal.returns-clause-shorter
returns-clause-shorter c =
    let w = some_word c.args.text.now c.requires in
    let line = c.line_of-line.ensures (length w.0) w.2.digits _ w.2.line in
    let parts = word_parts c.args.text.now w.0 w.1 c.line_of-line.result.length
    c.line_of-line.result.number w.2 line.0 line.1 in
    omega (
      arith,
      parts.shorter,
      ap length (c.split_at-3.ensures.back
          ∙ ap (drop 2) (c.split_at-2.ensures.back
          ∙ ap (drop c.line_of-line.result.number) c.split_at.ensures.back)),
    )
