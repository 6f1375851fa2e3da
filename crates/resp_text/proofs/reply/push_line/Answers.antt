use Rattle.std.proofs.Common.{◌++◌, ◌∙◌}
use Rattle.std.proofs.lemmas.List.{append_assoc}
use Rattle.resp_text.specs.Grammar.{line_end}
use Rattle.resp_text.specs.Replies.{AppendsFront}
use Rattle.resp_text.proofs.Fronts.{on_err}
use Rattle.resp_text.proofs.reply.push_line.Goals as goal

pub returns-in_err-push_all-2-clause-front : goal.returns-in_err-push_all-2-clause-front
returns-in_err-push_all-2-clause-front c =
    let front : AppendsFront c.args.out.now c.push_all-2.new.self
    (c.args.first.now ++ c.args.rest.now ++ line_end) = (
      c.args.first.now,
      c.args.rest.now ++ line_end,
      append_assoc c.args.first.now c.args.rest.now line_end,
      c.in_err-push_all-2.ensures.no_memory ∙ c.in_ok-push_all.ensures.ok,
    ) in
    on_err _ front
