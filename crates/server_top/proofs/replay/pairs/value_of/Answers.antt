-- What is found is what the finite map has.
use Rattle.std.proofs.Common.{◌≡◌, List, ℕ, ◌++◌, sym, ◌∙◌, ap, Some}
use Rattle.std.specs.Option.{option_map, option_copied}
use Rattle.server_top.proofs.StoredPairs.{get-stored_pairs}
use Rattle.server_top.proofs.replay.pairs.value_of.Goals as goal

pub returns-in_default : goal.returns-in_default
returns-in_default c =
    sym (get-stored_pairs _ _ ∙ ap (option_map (λ v. v.items)) (sym c.get.ensures.value ∙ ap option_copied c.in_default.is))

pub returns : goal.returns
returns c =
    let copied : c.push_all.new.self ≡ c.in-Some.found.now.items =
    c.in_ok-push_all.ensures.ok ∙ ap (λ (front : List ℕ). front ++ c.deref.result.now) c.new-value.ensures ∙ c.deref.ensures.value in
    ap Some copied ∙ sym (get-stored_pairs _ _ ∙ ap (option_map (λ v. v.items)) (sym c.get.ensures.value ∙ ap option_copied c.in-Some.is))
