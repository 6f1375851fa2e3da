-- The text of an image: a function of the pairs of a finite map.
use Rattle.std.specs.Prelude.{◌≡◌, ℕ, ◌≤◌, List, [], ◌∷◌, ◌++◌, length, codes}
use Rattle.std.specs.List.{flat_map, AllByRecursion}
use Rattle.std.specs.Ordering.{nat_cmp}
use Rattle.std.specs.Cmp.Lexicographic.{slice_cmp}
use Rattle.std.specs.FinMap.{FinMap, entries}
use Rattle.std.specs.declared.cmp.Ordering.{Ordering}
use Rattle.std.specs.declared.cmp.Ordering.TheVariants.{Less}
use Rattle.byteorder.specs.Endian.{big_bytes}

-- the order of keys: by bytes, and a key before each that it begins
abbrev pub bytes_cmp : List ℕ → List ℕ → Ordering
bytes_cmp = slice_cmp nat_cmp

-- a pair: the lengths of its key and of its value in four bytes each, and then both
unfoldable pub pair_text : List ℕ × List ℕ → List ℕ
pair_text pair = big_bytes 4 (length pair.0) ++ big_bytes 4 (length pair.1) ++ pair.0 ++ pair.1

-- what stands before the pairs: the magic word and how many pairs there are
unfoldable pub image_front : ℕ → List ℕ
image_front count = codes "AFIMAGE1" ++ big_bytes 8 count

-- what stands behind the pairs: the end word and their number again
unfoldable pub image_end : ℕ → List ℕ
image_end count = codes "AFEND" ++ big_bytes 8 count

-- the image of these pairs
abbrev pub pairs_text : List (List ℕ × List ℕ) → List ℕ
pairs_text pairs =
    image_front (length pairs) ++ flat_map pair_text pairs ++ image_end (length pairs)

-- the image of a map: that of its pairs in rising order of keys
abbrev pub image_text : FinMap bytes_cmp (List ℕ) → List ℕ
image_text map = pairs_text (entries map)

-- each key is greater than the one before it
abbrev pub AreKeysRising : List (List ℕ × List ℕ) → Type 0
AreKeysRising [] = Unit {0}
AreKeysRising (pair ∷ []) = Unit {0}
AreKeysRising (pair ∷ next ∷ pairs) =
    (bytes_cmp pair.0 next.0 ≡ Less) × AreKeysRising (next ∷ pairs)

-- the key is greater than the last one, if there is one
abbrev pub IsBehind : List (List ℕ × List ℕ) → List ℕ → Type 0
IsBehind [] key = Unit {0}
IsBehind (pair ∷ []) key = bytes_cmp pair.0 key ≡ Less
IsBehind (pair ∷ next ∷ pairs) key = IsBehind (next ∷ pairs) key

-- a key and a value are within the limits
abbrev pub FitsImage : List ℕ × List ℕ → Type 0
FitsImage pair = (length pair.0 ≤ 65536) × (length pair.1 ≤ 1048576)

-- pairs of which there may be an image
pub record HasImage (pairs : List (List ℕ × List ℕ)) : Type 0 where
  pub few : length pairs ≤ 268435456
  pub rising : AreKeysRising pairs
  pub each : AllByRecursion FitsImage pairs
