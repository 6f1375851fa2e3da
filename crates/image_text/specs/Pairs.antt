-- Pairs of a key and a value that lie one behind another in one buffer.
use Rattle.std.specs.Prelude.{◌≡◌, ℕ, zero, suc, ◌-◌, ◌≤◌, List, [], ◌∷◌, take, drop}
use Rattle.image_text.specs.declared.pair_end.PairEnd.{PairEnd}

-- the pairs that begin at a place of the buffer, where each key and each value ends
abbrev pub pairs_between : ℕ → List ℕ → List PairEnd → List (List ℕ × List ℕ)
pairs_between from bytes [] = []
pairs_between from bytes (end ∷ ends) = (
  take (end.key - from) (drop from bytes),
  take
      (end.value - end.key) (drop end.key bytes),
) ∷ pairs_between end.value bytes ends

-- the ends never fall, and the last one is the end of the buffer
abbrev pub ArePairEnds : ℕ → List PairEnd → ℕ → Type 0
ArePairEnds from [] len = from ≡ len
ArePairEnds from (end ∷ ends) len = (from ≤ end.key) × (end.key ≤ end.value)
    × ArePairEnds end.value ends len

-- where the pair at a place begins
abbrev pub pair_start : ℕ → List PairEnd → ℕ → ℕ
pair_start from ends zero = from
pair_start from [] (suc i) = from
pair_start from (end ∷ ends) (suc i) = pair_start end.value ends i
