use Rattle.std.proofs.Common.{ℕ, List, [], ◌∷◌, ◌++◌, ◌∙◌, sym, ap, length, decimal}
use Rattle.std.proofs.lemmas.List.{append_assoc}
use Rattle.resp_text.specs.Grammar.{line_end}
use Rattle.resp_text.specs.Replies.{AppendsFront}
use Rattle.resp_text.proofs.Fronts.{on_err, AppendsFront-longer}
use Rattle.resp_text.proofs.reply.push_bulk.Goals as goal

pub returns-in_err-push_line-clause-front : goal.returns-in_err-push_line-clause-front
returns-in_err-push_line-clause-front c =
    let bytes = c.args.bytes.now in
    let line : List ℕ = (36 ∷ []) ++ c.as_bytes.result.now ++ line_end in
    on_err _ (AppendsFront-longer c.args.out.now _ line (bytes ++ line_end) _
    (ap (λ (t : List ℕ). (36 ∷ []) ++ t ++ line_end ++ bytes ++ line_end) (sym
    (c.as_bytes.ensures.value ∙ c.format.ensures.text)) ∙ append_assoc line bytes line_end)
    c.in_err-push_line.ensures.front)

pub returns-in_err-push_all-clause-front : goal.returns-in_err-push_all-clause-front
returns-in_err-push_all-clause-front c =
    let bytes = c.args.bytes.now in
    let line : List ℕ = (36 ∷ []) ++ c.as_bytes.result.now ++ line_end in
    let front : AppendsFront c.args.out.now c.push_all.new.self ((36 ∷ []) ++ decimal
    (length bytes) ++ line_end ++ bytes ++ line_end) = (
      line,
      bytes ++ line_end,
      ap (λ (t : List ℕ). (36 ∷ []) ++ t ++ line_end ++ bytes ++ line_end) (sym
          (c.as_bytes.ensures.value ∙ c.format.ensures.text)) ∙ append_assoc line bytes line_end,
      c.in_err-push_all.ensures.no_memory ∙ c.in_ok-push_line.ensures.whole,
    ) in
    on_err _ front
