-- Pages as lists of bytes, and the slots in which the pages of the first cell lie.
use Rattle.std.specs.Prelude.{◌≡◌, ℕ, zero, suc, ◌+◌, List, [], ◌∷◌, length, Option, Some, None, All, cond, is_some}
use Rattle.std.specs.Option.{ForSome, option_copied}
use Rattle.std.specs.Borrow.{Bor}
use Rattle.std.specs.FinMap.{empty, insert, get}
use Rattle.vm_base.specs.FlatMemory.{PageMap}

-- the present pages of slots, of which the first has this page number
unfoldable pub present_from : ℕ → List (Option (List ℕ)) → PageMap
present_from first [] = empty
present_from first (None ∷ slots) = present_from (first + 1) slots
present_from first (Some bytes ∷ slots) = insert (present_from (first + 1) slots) first bytes

-- a page in a slot has 4096 bytes
abbrev pub IsWhole : Option (List ℕ) → Type 0
IsWhole slot = ForSome slot (λ bytes. length bytes ≡ 4096)

-- one slot for each page of a cell, with whole pages
pub record AreSlots (slots : List (Option (List ℕ))) : Type 0 where
  pub count : length slots ≡ 512
  pub whole : All IsWhole slots

-- the bytes behind what a search for a page gave
abbrev pub found_page : Option (Bor (List ℕ)) → Option (List ℕ)
found_page found = option_copied found

-- how many of n pages are absent
abbrev pub absent_count : PageMap → ℕ → ℕ → ℕ
absent_count present first zero = 0
absent_count present first (suc n) = cond (is_some (get present first)) 0 1 + absent_count present (first + 1) n
