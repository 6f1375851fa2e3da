-- Lists that are cut around one of their items.
use Rattle.std.proofs.Common.{◌≡◌, ℕ, suc, ◌+◌, ◌<◌, List, [], ◌∷◌, ◌++◌, length, take, drop, slice_index_or, slice_set, sym, ◌∙◌, ap, arith}
use Rattle.std.specs.List.{range_with_len}
use Rattle.std.proofs.Math.Seq.{split_at}
use Rattle.std.proofs.lemmas.List.{take-append-drop, take-set, drop-set, length-take}
use Rattle.vm_base.proofs.Ranges.{range-split}

-- a list around its item at a place
pub around_item : {X : Type 0} (xs : List X) (i : ℕ) (x : X) → i < length xs → x ≡ slice_index_or xs i x → xs ≡ take i xs ++ x ∷ drop (i + 1) xs
around_item xs i x inside here =
    let next : suc i ≡ i + 1 = omega arith in
    split_at xs i x inside
    ∙ ap (λ k. take i xs ++ slice_index_or xs i x ∷ drop k xs) next
    ∙ ap (λ item. take i xs ++ item ∷ drop (i + 1) xs) (sym here)

-- a list whose item at a place is set
pub set_around : {X : Type 0} (xs : List X) (i : ℕ) (y : X) → i < length xs → slice_set xs i y ≡ take i xs ++ y ∷ drop (i + 1) xs
set_around xs i y inside =
    sym (take-append-drop i (slice_set xs i y))
    ∙ ap (λ front. front ++ drop i (slice_set xs i y)) (take-set xs i y)
    ∙ ap (λ back. take i xs ++ back) (drop-set xs i y inside)

-- one number more at the end of a range
pub range-push : (n : ℕ) → range_with_len 0 (n + 1) ≡ range_with_len 0 n ++ n ∷ []
range-push n =
    let here : 0 + n ≡ n = omega arith in
    range-split 0 n 1 ∙ ap (λ last. range_with_len 0 n ++ last ∷ []) here

-- the place of an item is the length of what stands before it
pub length-front : {X : Type 0} (xs : List X) (i : ℕ) → i < length xs → length (take i xs) ≡ i
length-front xs i inside = grind (arith, length-take)
