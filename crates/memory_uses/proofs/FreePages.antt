-- Pages that no area has, and areas without them.
use Rattle.std.proofs.Common.{◌≡◌, ℕ, zero, suc, ◌+◌, ◌-◌, ◌<◌, ◌≤◌, ◌⊎◌, Bool, true, false, List, [], ◌∷◌, ◌++◌, Some, None, sym, ◌∙◌, ap, arith, inl, inr}
use Rattle.std.specs.Prelude.{is_some, nat_le, nat_lt}
use Rattle.std.specs.List.{range_with_len, find}
use Rattle.std.proofs.lemmas.Bool.{cases_Bool, cases_lt, cond-true, cond-false, false≢true}
use Rattle.std.proofs.lemmas.Bool.Decides.{nat_tests}
use Rattle.vm_base.specs.declared.permission.Perm.{Perm}
use Rattle.vm_base.specs.FlatMemory.{Area, holds, area_of}
use Rattle.vm_base.specs.FlatStep.{lowest, taken, area_between, area_without}
use Rattle.memory_uses.specs.Steps.{area_from_page}

-- none of n pages lies in an area
abbrev pub AreFree : ℕ → ℕ → List Area → Type 0
AreFree first n areas = (page : ℕ) → first ≤ page → page < first + n → is_some (area_of areas page) ≡ false

-- where no number passes, each fails
pub none_passes : (n first : ℕ) (test : ℕ → Bool) → lowest test first n ≡ None → (k : ℕ) → first ≤ k → k < first + n → test k ≡ false
none_passes zero first test none k above below = absurd (omega arith)
none_passes (suc n) first test none k above below = elim (cases_Bool (test first)) [
  | inl passes ↦ absurd (false≢true (sym (ap is_some none) ∙ ap is_some (cond-true (test first) (Some first) (find test (range_with_len (first + 1) n)) passes)))
  | inr fails ↦ elim (cases_lt first k) [
    | inl over ↦ none_passes n (first + 1) test (sym (cond-false (test first) (Some first) (find test (range_with_len (first + 1) n)) fails) ∙ none) k (omega arith) (omega arith)
    | inr under ↦ let here : first ≡ k = omega arith in sym (ap test here) ∙ fails
  ]
]

pub AreFree-taken : (first n : ℕ) (areas : List Area) → taken areas first n ≡ None → AreFree first n areas
AreFree-taken first n areas none = none_passes n first (λ page. is_some (area_of areas page)) none

-- no area has the page, so neither has the first, nor one of the others
free_first : (a : Area) (areas : List Area) (page : ℕ) → is_some (area_of (a ∷ areas) page) ≡ false → (holds a page ≡ false) × (is_some (area_of areas page) ≡ false)
free_first a areas page free = elim (cases_Bool (holds a page)) [
  | inl held ↦ absurd (false≢true (sym free ∙ ap is_some (cond-true (holds a page) (Some a) (area_of areas page) held)))
  | inr not_held ↦ (not_held, sym (ap is_some (cond-false (holds a page) (Some a) (area_of areas page) not_held)) ∙ free)
]

pub free_others : (first n : ℕ) (a : Area) (areas : List Area) → AreFree first n (a ∷ areas) → AreFree first n areas
free_others first n a areas free page above below = (free_first a areas page (free page above below)).1

holds_there : (a : Area) (page : ℕ) → a.first ≤ page → page < a.first + a.pages → holds a page ≡ true
holds_there a page above below = grind (arith, nat_tests)

-- an area without any of the pages lies below or above them
pub free_apart : (first n : ℕ) (a : Area) (areas : List Area) → 0 < n → 0 < a.pages → AreFree first n (a ∷ areas) → (a.first + a.pages ≤ first) ⊎ (first + n ≤ a.first)
free_apart first n a areas some pages free = elim (cases_lt first (a.first + a.pages)) [
  | inr done ↦ inl done
  | inl beyond ↦ elim (cases_lt a.first (first + n)) [
    | inr done ↦ inr done
    | inl before ↦ elim (cases_lt a.first first) [
      | inl early ↦ absurd (false≢true (sym (free_first a areas first (free first (omega arith) (omega arith))).0 ∙ holds_there a first (omega arith) beyond))
      | inr late ↦ absurd (false≢true (sym (free_first a areas a.first (free a.first late before)).0 ∙ holds_there a a.first (omega arith) (omega arith)))
    ]
  ]
]

le_true : (x y : ℕ) → x ≤ y → nat_le x y ≡ true
le_true x y le = grind (arith, nat_tests)

le_false : (x y : ℕ) → y < x → nat_le x y ≡ false
le_false x y less = grind (arith, nat_tests)

lt_true : (x y : ℕ) → x < y → nat_lt x y ≡ true
lt_true x y less = grind (arith, nat_tests)

lt_false : (x y : ℕ) → y ≤ x → nat_lt x y ≡ false
lt_false x y le = grind (arith, nat_tests)

-- an area that lies apart from the pages stays
pub without_apart : (first n : ℕ) (a : Area) → (a.first + a.pages ≤ first) ⊎ (first + n ≤ a.first) → area_without first n a ≡ a ∷ []
without_apart first n a (inl below) = cond-true (nat_le (a.first + a.pages) first) _ _ (le_true (a.first + a.pages) first below)
without_apart first n a (inr above) = elim (cases_Bool (nat_le (a.first + a.pages) first)) [
  | inl below ↦ cond-true (nat_le (a.first + a.pages) first) _ _ below
  | inr met ↦ cond-false (nat_le (a.first + a.pages) first) _ _ met ∙ cond-true (nat_le (first + n) a.first) _ _ (le_true (first + n) a.first above)
]

-- of an area that meets the pages what lies before them and behind them is left
pub without_met : (first n : ℕ) (a : Area) → first < a.first + a.pages → a.first < first + n
    → area_without first n a ≡ area_between a.first first a.perm ++ area_between (first + n) (a.first + a.pages) a.perm
without_met first n a beyond before =
    cond-false (nat_le (a.first + a.pages) first) _ _ (le_false (a.first + a.pages) first beyond)
    ∙ cond-false (nat_le (first + n) a.first) _ _ (le_false (first + n) a.first before)

pub between_none : (first end : ℕ) (perm : Perm) → end ≤ first → area_between first end perm ≡ []
between_none first end perm le = cond-false (nat_lt first end) _ _ (lt_false first end le)

pub between_some : (first end : ℕ) (perm : Perm) → first < end → area_between first end perm ≡ area_from_page first (end - first) perm ∷ []
between_some first end perm less = cond-true (nat_lt first end) _ _ (lt_true first end less)
