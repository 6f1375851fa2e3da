-- What is found in a list behind elements that do not pass.
use Rattle.std.proofs.Common.{◌≡◌, ◌<◌, ◌+◌, ℕ, Bool, false, cond, List, length, drop, Some, sym, ◌∙◌, ap}
use Rattle.std.specs.List.{find}
use Rattle.std.proofs.Math.ListN.{get_or}
use Rattle.std.proofs.lemmas.List.{at_drop_more}

-- an element that does not pass is not what is found
pub find_on : {X : Type 0} (test : X → Bool) (xs : List X) (i : ℕ) (d : X) → i < length xs → test (get_or xs i d) ≡ false
    → find test (drop (i + 1) xs) ≡ find test (drop i xs)
find_on test xs i d within fails =
    sym (at_drop_more (find test) xs i d within ∙ ap (λ b. cond b (Some (get_or xs i d)) (find test (drop (i + 1) xs))) fails)
