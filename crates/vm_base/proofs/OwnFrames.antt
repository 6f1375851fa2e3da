-- How many frames a memory takes that shares none: never fewer where more pages are present.
use Rattle.std.proofs.Common.{◌≡◌, ℕ, zero, suc, ◌+◌, ◌/◌, ◌^◌, ◌≤◌, Bool, true, false, eqb, List, [], ◌∷◌, map, length, refl, sym, ◌∙◌, ap, subst, arith, inl, inr}
use Rattle.std.specs.Prelude.{IsSome, is_some, ◌||◌, T}
use Rattle.std.specs.List.{list_any, AllByRecursion, IsDistinct}
use Rattle.std.specs.Ordering.{nat_cmp, eq_by_cmp, is_lt}
use Rattle.std.specs.Cmp.{nat_eq_equiv}
use Rattle.std.specs.FinMap.{get, entries, entries_sorted, keys, len, len-entries, len-empty, contains_key-keys}
use Rattle.std.specs.FinMap.Entries.{is_sorted, below_all}
use Rattle.std.proofs.lemmas.Bool.{cases_Bool, cases_eq, cond-true, cond-false, eq-eqb, eqb-true, and_parts, or_cases, or_parts, or_left, or_right, false≢true}
use Rattle.std.proofs.lemmas.Bool.Decides.{nat_tests}
use Rattle.std.proofs.lemmas.List.{length-map, nil_from_length}
use Rattle.std.proofs.lemmas.Map.Keys.{IsDistinct-cons}
use Rattle.std.proofs.lemmas.Map.Made.{length-le_from_is_member}
use Rattle.vm_base.specs.Places.{cell_of, directory_frames, distinct}
use Rattle.vm_base.specs.FlatMemory.{PageMap, FlatMemory, empty_memory, zero_page, cells_of}
use Rattle.vm_base.specs.FlatStep.{with_page, with_pages}
use Rattle.vm_base.specs.MemoryState.{own_of}
use Rattle.vm_base.proofs.NumberedMaps.{get_inserted_here, get_inserted_apart}
use Rattle.vm_base.proofs.FlatPages.{with_page_there, with_page_absent}

-- ---- lists of numbers, by their members
abbrev pub member : ℕ → List ℕ → Bool
member x xs = list_any (eqb x) xs

-- each member of the one list is a member of the other
abbrev pub AreMembers : List ℕ → List ℕ → Type 0
AreMembers xs ys = (q : ℕ) → member q xs ≡ true → member q ys ≡ true

-- a member that stands in front again changes no answer
member_again : (q x : ℕ) (xs : List ℕ) → member x xs ≡ true → member q xs ≡ (eqb q x || member q xs)
member_again q x xs there = elim (cases_Bool (eqb q x)) [
  | inl same ↦ ap (λ k. member k xs) (eqb-true q x same) ∙ there ∙ sym (or_left (eqb q x) (member q xs) same)
  | inr apart ↦ ap (λ b. b || member q xs) (sym apart)
]

pub member-distinct : (xs : List ℕ) (q : ℕ) → member q (distinct xs) ≡ member q xs
member-distinct [] q = refl
member-distinct (x ∷ xs) q = elim (cases_Bool (member x xs)) [
  | inl there ↦ ap (member q) (cond-true (member x xs) (distinct xs) (x ∷ distinct xs) there) ∙ member-distinct xs q ∙ member_again q x xs there
  | inr new ↦ ap (member q) (cond-false (member x xs) (distinct xs) (x ∷ distinct xs) new) ∙ ap (λ b. eqb q x || b) (member-distinct xs q)
]

none_equal : (x : ℕ) (xs : List ℕ) → member x xs ≡ false → AllByRecursion (λ y. eqb x y ≡ false) xs
none_equal x [] none = tt
none_equal x (y ∷ xs) none = let parts = or_parts (eqb x y) (member x xs) none in (parts.0, none_equal x xs parts.1)

no_numbers : IsDistinct eqb []
unfolding IsDistinct
no_numbers = tt

pub IsDistinct-distinct : (xs : List ℕ) → IsDistinct eqb (distinct xs)
IsDistinct-distinct [] = no_numbers
IsDistinct-distinct (x ∷ xs) = elim (cases_Bool (member x xs)) [
  | inl there ↦ subst (IsDistinct eqb) (sym (cond-true (member x xs) (distinct xs) (x ∷ distinct xs) there)) (IsDistinct-distinct xs)
  | inr new ↦ subst (IsDistinct eqb) (sym (cond-false (member x xs) (distinct xs) (x ∷ distinct xs) new))
      (IsDistinct-cons eqb x (distinct xs) (none_equal x (distinct xs) (member-distinct xs x ∙ new)) (IsDistinct-distinct xs))
]

-- a list whose members the other has is no longer than it, each member once
pub length-distinct-le : (xs ys : List ℕ) → AreMembers xs ys → length (distinct xs) ≤ length (distinct ys)
length-distinct-le xs ys among =
    length-le_from_is_member nat_eq_equiv (distinct xs) (distinct ys) (IsDistinct-distinct xs)
    (λ q there. member-distinct ys q ∙ among q (sym (member-distinct xs q) ∙ there))

pub member-map : (f : ℕ → ℕ) (x : ℕ) (xs : List ℕ) → member x xs ≡ true → member (f x) (map f xs) ≡ true
member-map f x [] there = absurd (false≢true there)
member-map f x (y ∷ xs) there = elim (or_cases (eqb x y) (member x xs) there) [
  | inl here ↦ or_left (eqb (f x) (f y)) (member (f x) (map f xs)) (eq-eqb (f x) (f y) (ap f (eqb-true x y here)))
  | inr later ↦ or_right (eqb (f x) (f y)) (member (f x) (map f xs)) (member-map f x xs later)
]

pub members-map : (f : ℕ → ℕ) (xs ys : List ℕ) → AreMembers xs ys → AreMembers (map f xs) (map f ys)
members-map f [] ys among q there = absurd (false≢true there)
members-map f (x ∷ xs) ys among q there = elim (or_cases (eqb q (f x)) (member q (map f xs)) there) [
  | inl here ↦ ap (λ k. member k (map f ys)) (eqb-true q (f x) here) ∙ member-map f x ys (among x (or_left (eqb x x) (member x xs) (eq-eqb x x refl)))
  | inr later ↦ members-map f xs ys (λ k inside. among k (or_right (eqb k x) (member k xs) inside)) q later
]

-- the directory of more cells has no fewer tables
pub directory_frames-le : (xs ys : List ℕ) → AreMembers xs ys → directory_frames xs ≤ directory_frames ys
directory_frames-le [] ys among = omega arith
directory_frames-le (x ∷ xs) [] among = absurd (false≢true (among x (or_left (eqb x x) (member x xs) (eq-eqb x x refl))))
directory_frames-le (x ∷ xs) (y ∷ ys) among =
    let upper = length-distinct-le (map (λ c. c / 2 ^ 18) (x ∷ xs)) (map (λ c. c / 2 ^ 18) (y ∷ ys)) (members-map (λ c. c / 2 ^ 18) (x ∷ xs) (y ∷ ys) among) in
    let middle = length-distinct-le (map (λ c. c / 2 ^ 9) (x ∷ xs)) (map (λ c. c / 2 ^ 9) (y ∷ ys)) (members-map (λ c. c / 2 ^ 9) (x ∷ xs) (y ∷ ys) among) in
    omega arith

-- ---- the keys of a map of pages
same_test : (q x : ℕ) → eq_by_cmp nat_cmp q x ≡ eqb q x
same_test q x = grind (arith, nat_tests)

pub member-keys : (present : PageMap) (page : ℕ) → member page (keys present) ≡ is_some (get present page)
member-keys present page = sym (contains_key-keys present page ∙ tests (keys present))
  where
    tests : (ks : List ℕ) → list_any (eq_by_cmp nat_cmp page) ks ≡ member page ks
    tests [] = refl
    tests (k ∷ ks) = ap (λ b. b || list_any (eq_by_cmp nat_cmp page) ks) (same_test page k) ∙ ap (λ b. eqb page k || b) (tests ks)

true_from : (b : Bool) → T b → b ≡ true
true_from true holds = refl
true_from false holds = absurd holds

less_is_apart : (x y : ℕ) → is_lt (nat_cmp x y) ≡ true → eqb x y ≡ false
less_is_apart x y less = grind (arith, nat_tests)

apart_from_later : {X : Type 0} (x : ℕ) (es : List (ℕ × X)) → below_all nat_cmp x es ≡ true → AllByRecursion (λ y. eqb x y ≡ false) (map (λ e. e.0) es)
apart_from_later x [] below = tt
apart_from_later x (e ∷ es) below =
    let parts = and_parts (is_lt (nat_cmp x e.0)) (below_all nat_cmp x es) below in
    (less_is_apart x e.0 parts.0, apart_from_later x es parts.1)

sorted_is_distinct : {X : Type 0} (es : List (ℕ × X)) → is_sorted nat_cmp es ≡ true → IsDistinct eqb (map (λ e. e.0) es)
sorted_is_distinct [] sorted = no_numbers
sorted_is_distinct (e ∷ es) sorted =
    let parts = and_parts (below_all nat_cmp e.0 es) (is_sorted nat_cmp es) sorted in
    IsDistinct-cons eqb e.0 (map (λ e. e.0) es) (apart_from_later e.0 es parts.0) (sorted_is_distinct es parts.1)

-- entries in order have no number twice
pub IsDistinct-sorted : {X : Type 0} (es : List (ℕ × X)) → T (is_sorted nat_cmp es) → IsDistinct eqb (map (λ e. e.0) es)
IsDistinct-sorted es sorted = sorted_is_distinct es (true_from (is_sorted nat_cmp es) sorted)

pub IsDistinct-keys : (present : PageMap) → IsDistinct eqb (keys present)
IsDistinct-keys present = IsDistinct-sorted (entries present) (entries_sorted present)

pub length-keys : (present : PageMap) → length (keys present) ≡ len present
length-keys present = length-map (entries present) (λ (e : ℕ × List ℕ). e.0) ∙ sym (len-entries present)

keys_among : (a b : PageMap) → ((page : ℕ) → IsSome (get a page) → IsSome (get b page)) → AreMembers (keys a) (keys b)
keys_among a b among page there = member-keys b page ∙ among page (sym (member-keys a page) ∙ there)

-- a map with more keys is no shorter
pub len-le : (a b : PageMap) → ((page : ℕ) → IsSome (get a page) → IsSome (get b page)) → len a ≤ len b
len-le a b among =
    let shorter : length (keys a) ≤ length (keys b) = length-le_from_is_member nat_eq_equiv (keys a) (keys b) (IsDistinct-keys a) (keys_among a b among) in
    omega (arith, length-keys a, length-keys b)

-- ---- the frames of a memory
pub own-fewer : (a b : FlatMemory) → ((page : ℕ) → IsSome (get a.present page) → IsSome (get b.present page)) → own_of a ≤ own_of b
own-fewer a b among =
    let cells : AreMembers (cells_of a) (cells_of b) = members-map cell_of (keys a.present) (keys b.present) (keys_among a.present b.present among) in
    let directory : directory_frames (cells_of a) ≤ directory_frames (cells_of b) = directory_frames-le (cells_of a) (cells_of b) cells in
    let leaves : length (distinct (cells_of a)) ≤ length (distinct (cells_of b)) = length-distinct-le (cells_of a) (cells_of b) cells in
    let pages : len a.present ≤ len b.present = len-le a.present b.present among in
    omega arith

pub own-alike : (a b : FlatMemory) → ((page : ℕ) → is_some (get a.present page) ≡ is_some (get b.present page)) → own_of a ≡ own_of b
own-alike a b alike =
    let up : own_of a ≤ own_of b = own-fewer a b (λ page there. sym (alike page) ∙ there) in
    let down : own_of b ≤ own_of a = own-fewer b a (λ page there. alike page ∙ there) in
    omega arith

-- touching a page leaves those that are present
kept-with_page : (present : PageMap) (page q : ℕ) → IsSome (get present q) → IsSome (get (with_page present page) q)
kept-with_page present page q there = elim (cases_Bool (is_some (get present page))) [
  | inl held ↦ ap (λ m. is_some (get m q)) (with_page_there present page held) ∙ there
  | inr absent ↦ ap (λ m. is_some (get m q)) (with_page_absent present page absent) ∙ elim (cases_eq q page) [
    | inl here ↦ ap is_some (get_inserted_here present page zero_page q here)
    | inr apart ↦ ap is_some (get_inserted_apart present page zero_page q apart) ∙ there
  ]
]

pub kept-with_pages : (n : ℕ) (present : PageMap) (first q : ℕ) → IsSome (get present q) → IsSome (get (with_pages present first n) q)
kept-with_pages zero present first q there = there
kept-with_pages (suc n) present first q there = kept-with_pages n (with_page present first) (first + 1) q (kept-with_page present first q there)

pub own-touched : (memory : FlatMemory) (first n : ℕ) → own_of memory ≤ own_of (record memory { present = with_pages memory.present first n })
own-touched memory first n = own-fewer memory (record memory { present = with_pages memory.present first n }) (kept-with_pages n memory.present first)

no_pages : entries empty_memory.present ≡ []
no_pages = nil_from_length (entries empty_memory.present) (sym (len-entries empty_memory.present) ∙ len-empty nat_cmp (List ℕ))

pub own-empty : own_of empty_memory ≡ 0
own-empty =
    let directory : directory_frames (cells_of empty_memory) ≡ 0 = ap (λ (es : List (ℕ × List ℕ)). directory_frames (map cell_of (map (λ e. e.0) es))) no_pages in
    let leaves : length (distinct (cells_of empty_memory)) ≡ 0 = ap (λ (es : List (ℕ × List ℕ)). length (distinct (map cell_of (map (λ e. e.0) es)))) no_pages in
    let pages : len empty_memory.present ≡ 0 = len-empty nat_cmp (List ℕ) in
    omega arith

pub pages-own : (memory : FlatMemory) → len memory.present ≤ own_of memory
pages-own memory = omega arith
