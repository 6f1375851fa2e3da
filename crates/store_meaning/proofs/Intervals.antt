-- Numbers that lie in some intervals: how many of them are distinct, and how many pages and cells a memory has whose pages all lie there.
use Rattle.std.proofs.Common.{◌≡◌, ℕ, zero, suc, ◌+◌, ◌-◌, ◌/◌, ◌^◌, ◌<◌, ◌≤◌, ◌⊎◌, true, eqb, List, [], ◌∷◌, ◌++◌, length, map, refl, sym, ◌∙◌, subst, arith, inl, inr, IsSome}
use Rattle.std.specs.Cmp.{nat_eq_equiv}
use Rattle.std.specs.List.{range_with_len}
use Rattle.std.specs.FinMap.{get, keys, len}
use Rattle.std.proofs.lemmas.Bool.{cases_eq, eq-eqb, eqb-true, or_cases, or_left, or_right, false≢true}
use Rattle.std.proofs.lemmas.List.{length-append}
use Rattle.std.proofs.lemmas.List.FromFn.{length-range_with_len}
use Rattle.std.proofs.lemmas.Map.Made.{length-le_from_is_member}
use Rattle.vm_base.specs.Places.{cell_of, distinct, directory_frames}
use Rattle.vm_base.specs.FlatMemory.{PageMap, FlatMemory, cells_of}
use Rattle.vm_base.proofs.OwnFrames.{member, member-distinct, member-keys, length-keys, IsDistinct-distinct, IsDistinct-keys}

-- an interval: its first number, and how many it has
abbrev pub Interval : Type 0
Interval = ℕ × ℕ

-- the number lies in one of the intervals
abbrev pub IsInOneOf : List Interval → ℕ → Type 0
IsInOneOf [] q = ⊥
IsInOneOf (part ∷ parts) q = ((part.0 ≤ q) × (q < part.0 + part.1)) ⊎ IsInOneOf parts q

-- how many numbers the intervals have
abbrev pub count_in : List Interval → ℕ
count_in [] = 0
count_in (part ∷ parts) = part.1 + count_in parts

-- the numbers themselves
abbrev numbers_in : List Interval → List ℕ
numbers_in [] = []
numbers_in (part ∷ parts) = range_with_len part.0 part.1 ++ numbers_in parts

length-numbers_in : (parts : List Interval) → length (numbers_in parts) ≡ count_in parts
length-numbers_in [] = refl
length-numbers_in (part ∷ parts) =
    let both = length-append (range_with_len part.0 part.1) (numbers_in parts) in
    omega (arith, both, length-range_with_len part.0 part.1, length-numbers_in parts)

member-range : (n first q : ℕ) → first ≤ q → q < first + n → member q (range_with_len first n) ≡ true
member-range zero first q low high = absurd (omega (arith, low, high))
member-range (suc n) first q low high = elim (cases_eq q first) [
  | inl here ↦ or_left (eqb q first) (member q (range_with_len (first + 1) n)) (eq-eqb q first here)
  | inr apart ↦ or_right (eqb q first) (member q (range_with_len (first + 1) n))
      (member-range n (first + 1) q (omega (arith, low, apart)) (omega (arith, high)))
]

member-left : (q : ℕ) (xs ys : List ℕ) → member q xs ≡ true → member q (xs ++ ys) ≡ true
member-left q [] ys there = absurd (false≢true there)
member-left q (x ∷ xs) ys there = elim (or_cases (eqb q x) (member q xs) there) [
  | inl here ↦ or_left (eqb q x) (member q (xs ++ ys)) here
  | inr later ↦ or_right (eqb q x) (member q (xs ++ ys)) (member-left q xs ys later)
]

member-right : (q : ℕ) (xs ys : List ℕ) → member q ys ≡ true → member q (xs ++ ys) ≡ true
member-right q [] ys there = there
member-right q (x ∷ xs) ys there = or_right (eqb q x) (member q (xs ++ ys)) (member-right q xs ys there)

member-numbers_in : (parts : List Interval) (q : ℕ) → IsInOneOf parts q → member q (numbers_in parts) ≡ true
member-numbers_in [] q within = absurd within
member-numbers_in (part ∷ parts) q (inl here) =
    member-left q (range_with_len part.0 part.1) (numbers_in parts) (member-range part.1 part.0 q here.0 here.1)
member-numbers_in (part ∷ parts) q (inr later) =
    member-right q (range_with_len part.0 part.1) (numbers_in parts) (member-numbers_in parts q later)

-- what holds of a function at each member of a list holds of the members that it makes
pub of_mapped : (P : ℕ → Type 0) (f : ℕ → ℕ) (xs : List ℕ) → ((x : ℕ) → member x xs ≡ true → P (f x))
    → (q : ℕ) → member q (map f xs) ≡ true → P q
of_mapped P f [] holds q there = absurd (false≢true there)
of_mapped P f (x ∷ xs) holds q there = elim (or_cases (eqb q (f x)) (member q (map f xs)) there) [
  | inl here ↦ subst P (sym (eqb-true q (f x) here)) (holds x (or_left (eqb x x) (member x xs) (eq-eqb x x refl)))
  | inr later ↦ of_mapped P f xs (λ k inside. holds k (or_right (eqb k x) (member k xs) inside)) q later
]

-- of numbers in some intervals no more are distinct than those have
pub distinct_within : (numbers : List ℕ) (parts : List Interval) → ((q : ℕ) → member q numbers ≡ true → IsInOneOf parts q)
    → length (distinct numbers) ≤ count_in parts
distinct_within numbers parts within =
    let fewer : length (distinct numbers) ≤ length (numbers_in parts) =
    length-le_from_is_member nat_eq_equiv (distinct numbers) (numbers_in parts) (IsDistinct-distinct numbers)
    (λ q there. member-numbers_in parts q (within q (sym (member-distinct numbers q) ∙ there))) in
    omega (arith, fewer, length-numbers_in parts)

-- each present page lies in one of the intervals
abbrev pub ArePagesIn : List Interval → PageMap → Type 0
ArePagesIn parts present = (page : ℕ) → IsSome (get present page) → IsInOneOf parts page

-- of pages in some intervals no more are present than those have
pub len_within : (present : PageMap) (parts : List Interval) → ArePagesIn parts present → len present ≤ count_in parts
len_within present parts within =
    let fewer : length (keys present) ≤ length (numbers_in parts) =
    length-le_from_is_member nat_eq_equiv (keys present) (numbers_in parts) (IsDistinct-keys present)
    (λ q there. member-numbers_in parts q (within q (sym (member-keys present q) ∙ there))) in
    omega (arith, fewer, length-numbers_in parts, length-keys present)

-- what holds of the cell of each present page holds of each cell of the memory
pub of_cells : (P : ℕ → Type 0) (memory : FlatMemory) → ((page : ℕ) → IsSome (get memory.present page) → P (cell_of page))
    → (cell : ℕ) → member cell (cells_of memory) ≡ true → P cell
of_cells P memory holds =
    of_mapped P cell_of (keys memory.present) (λ page there. holds page (sym (member-keys memory.present page) ∙ there))

-- the intervals of the cells of pages
abbrev pub cells_in : List Interval → List Interval
cells_in [] = []
cells_in (part ∷ parts) = (part.0 / 512, (part.0 + part.1 + 511) / 512 - part.0 / 512) ∷ cells_in parts

pub in_cells : (parts : List Interval) (page : ℕ) → IsInOneOf parts page → IsInOneOf (cells_in parts) (cell_of page)
in_cells [] page within = absurd within
in_cells (part ∷ parts) page (inl here) = inl (omega (arith, here.0), omega (arith, here.0, here.1))
in_cells (part ∷ parts) page (inr later) = inr (in_cells parts page later)

-- pages in some intervals have no more distinct cells than those meet
pub cells_within : (memory : FlatMemory) (parts : List Interval) → ArePagesIn parts memory.present
    → length (distinct (cells_of memory)) ≤ count_in (cells_in parts)
cells_within memory parts within =
    distinct_within (cells_of memory) (cells_in parts)
    (of_cells (IsInOneOf (cells_in parts)) memory (λ page there. in_cells parts page (within page there)))

-- and a directory has one top table, and no more upper and middle tables than the intervals in which their numbers lie have
pub directory_within : (cells : List ℕ) (upper middle : List Interval)
    → ((cell : ℕ) → member cell cells ≡ true → IsInOneOf upper (cell / 2 ^ 18))
    → ((cell : ℕ) → member cell cells ≡ true → IsInOneOf middle (cell / 2 ^ 9))
    → directory_frames cells ≤ 1 + count_in upper + count_in middle
directory_within [] upper middle uppers middles = omega arith
directory_within (cell ∷ cells) upper middle uppers middles =
    let first = distinct_within (map (λ c. c / 2 ^ 18) (cell ∷ cells)) upper
    (of_mapped (IsInOneOf upper) (λ c. c / 2 ^ 18) (cell ∷ cells) uppers) in
    let second = distinct_within (map (λ c. c / 2 ^ 9) (cell ∷ cells)) middle
    (of_mapped (IsInOneOf middle) (λ c. c / 2 ^ 9) (cell ∷ cells) middles) in
    omega (arith, first, second)
