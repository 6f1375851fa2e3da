-- What a call that ran out of memory has appended.
use Rattle.std.proofs.Common.{◌≡◌, ℕ, List, ◌++◌, Result, Ok, Err, OnErr, ap, ◌∙◌}
use Rattle.std.proofs.lemmas.List.{append_assoc}
use Rattle.resp_text.specs.Replies.{AppendsFront}

-- a fact holds on an error if it holds
pub on_err : {T E P : Type 0} (r : Result T E) → P → OnErr r P
on_err (Ok x) p = tt
on_err (Err e) p = p

-- a front of a text is one of a longer text
pub AppendsFront-longer : (old new text more longer : List ℕ) → longer ≡ text ++ more →
    AppendsFront old new text → AppendsFront old new longer
AppendsFront-longer old new text more longer e (front, rest, is, was) =
    (front, rest ++ more, e ∙ ap (λ (t : List ℕ). t ++ more) is ∙ append_assoc front rest more, was)
