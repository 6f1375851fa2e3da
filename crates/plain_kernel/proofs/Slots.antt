-- What slots hold as a finite map from pages.
use Rattle.std.proofs.Common.{◌≡◌, subst, ℕ, zero, suc, ◌+◌, ◌-◌, ◌<◌, List, [], ◌∷◌, length, Option, Some, None, get_or, set, replicate, cond, ltb, eqb, refl, sym, ◌∙◌, ap, arith, inl, inr}
use Rattle.std.specs.Ordering.{nat_cmp}
use Rattle.std.specs.FinMap.{get, insert, empty, get-empty}
use Rattle.std.proofs.lemmas.Bool.{cases_lt, cases_eq, lt-ltb, le-ltb, cond-true, cond-false, eq-eqb, ne_eqb}
use Rattle.std.proofs.lemmas.List.{get_or-set_same, get_or-set_other, length-replicate, get_or-replicate, get_or_read}
use Rattle.std.proofs.lemmas.Option.{none-some}
use Rattle.std.specs.Option.{option_map, IfSome, ForSome}
use Rattle.vm_base.specs.FlatMemory.{PageMap, spliced}
use Rattle.vm_base.proofs.NumberedMaps.{get_inserted, same_numbered}
use Rattle.plain_kernel.specs.Pages.{present_from, AreSlots}

-- what slots have at a page, where the first slot is that of a page number
abbrev slot_from : ℕ → List (Option (List ℕ)) → ℕ → Option (List ℕ)
slot_from first slots q = cond (ltb q first) None (get_or slots (q - first) None)

slot_from_past : (first q : ℕ) → None ≡ slot_from first [] q
slot_from_past first q = elim (cases_lt q first) [
  | inl below ↦ sym (cond-true (ltb q first) _ _ (lt-ltb q first below))
  | inr above ↦ sym (cond-false (ltb q first) _ _ (le-ltb q first above))
]

slot_from_here : (first : ℕ) (slot : Option (List ℕ)) (slots : List (Option (List ℕ))) → slot ≡ slot_from first (slot ∷ slots) first
slot_from_here first slot slots =
    let at_first : first - first ≡ 0 = omega arith in
    sym (cond-false (ltb first first) _ _ (le-ltb first first (omega arith)) ∙ ap (λ i. get_or (slot ∷ slots) i None) at_first)

slot_from_more : (first q : ℕ) (slot : Option (List ℕ)) (slots : List (Option (List ℕ))) → (q ≡ first → ⊥) → slot_from (first + 1) slots q ≡ slot_from first (slot ∷ slots) q
slot_from_more first q slot slots apart = elim (cases_lt q first) [
  | inl below ↦ cond-true (ltb q (first + 1)) _ _ (lt-ltb q (first + 1) (omega arith)) ∙ sym (cond-true (ltb q first) _ _ (lt-ltb q first below))
  | inr above ↦
      let more : q - first ≡ suc (q - (first + 1)) = omega arith in
      cond-false (ltb q (first + 1)) _ _ (le-ltb q (first + 1) (omega arith))
      ∙ sym (cond-false (ltb q first) _ _ (le-ltb q first above) ∙ ap (λ i. get_or (slot ∷ slots) i None) more)
]

-- what slots have at a page
pub get-present_from : (slots : List (Option (List ℕ))) (first q : ℕ) → get (present_from first slots) q ≡ slot_from first slots q
unfolding present_from
get-present_from [] first q = get-empty nat_cmp q ∙ slot_from_past first q
get-present_from (None ∷ slots) first q = elim (cases_eq q first) [
  | inl here ↦ get-present_from slots (first + 1) q
      ∙ cond-true (ltb q (first + 1)) _ _ (lt-ltb q (first + 1) (omega arith))
      ∙ slot_from_here first None slots ∙ ap (slot_from first (None ∷ slots)) (sym here)
  | inr apart ↦ get-present_from slots (first + 1) q ∙ slot_from_more first q None slots apart
]
get-present_from (Some bytes ∷ slots) first q = elim (cases_eq q first) [
  | inl here ↦ get_inserted (present_from (first + 1) slots) first bytes q
      ∙ cond-true (eqb q first) _ _ (eq-eqb q first here)
      ∙ slot_from_here first (Some bytes) slots ∙ ap (slot_from first (Some bytes ∷ slots)) (sym here)
  | inr apart ↦ get_inserted (present_from (first + 1) slots) first bytes q
      ∙ cond-false (eqb q first) _ _ (ne_eqb q first apart)
      ∙ get-present_from slots (first + 1) q ∙ slot_from_more first q (Some bytes) slots apart
]

-- what slots have at a page, where the first slot is that of page 0
pub get-slots : (slots : List (Option (List ℕ))) (q : ℕ) → get (present_from 0 slots) q ≡ get_or slots q None
get-slots slots q = get-present_from slots 0 q ∙ cond-false (ltb q 0) _ _ (le-ltb q 0 (omega arith)) ∙ ap (λ i. get_or slots i None) (omega arith)

-- to fill a slot is to insert its page
pub present_from-set : (slots : List (Option (List ℕ))) (page : ℕ) (bytes : List ℕ) → page < length slots → present_from 0 (set slots page (Some bytes)) ≡ insert (present_from 0 slots) page bytes
present_from-set slots page bytes inside = same_numbered _ _ (λ q. get-slots (set slots page (Some bytes)) q ∙ sym (get_inserted (present_from 0 slots) page bytes q ∙ step q)) where
  step : (q : ℕ) → cond (eqb q page) (Some bytes) (get (present_from 0 slots) q) ≡ get_or (set slots page (Some bytes)) q None
  step q = elim (cases_eq q page) [
    | inl here ↦ cond-true (eqb q page) _ _ (eq-eqb q page here) ∙ sym (ap (λ i. get_or (set slots page (Some bytes)) i None) here ∙ get_or-set_same slots page (Some bytes) None inside)
    | inr apart ↦ cond-false (eqb q page) _ _ (ne_eqb q page apart) ∙ get-slots slots q ∙ sym (get_or-set_other slots page q (Some bytes) None apart)
  ]

-- slots without a page are the empty map
pub present_from-nothing : (n first : ℕ) → present_from first (replicate n None) ≡ empty
unfolding present_from
present_from-nothing zero first = refl
present_from-nothing (suc n) first = present_from-nothing n (first + 1)

-- slots without a page are slots
pub slots_without_pages : AreSlots (replicate 512 None)
slots_without_pages = record {
  count = length-replicate {A = Option (List ℕ)} 512 None;
  whole = λ k d small page there. absurd (none-some page (sym (get_or-replicate {A = Option (List ℕ)} 512 k None d small) ∙ there));
}

written_case : (slots : List (Option (List ℕ))) (page at : ℕ) (bytes : List ℕ) (slot : Option (List ℕ)) (m : PageMap) → page < length slots → present_from 0 slots ≡ m
    → (found : Option (List ℕ)) → slot ≡ option_map (λ old. spliced old at bytes) found
    → IfSome found (λ old. present_from 0 (set slots page slot) ≡ insert m page (spliced old at bytes))
written_case slots page at bytes slot m inside is None e = tt
written_case slots page at bytes slot m inside is (Some old) e =
    ap (λ s. present_from 0 (set slots page s)) e ∙ present_from-set slots page (spliced old at bytes) inside ∙ ap (λ n. insert n page (spliced old at bytes)) is

-- to write into a slot is to insert the page with the bytes written
pub written_slot : (slots : List (Option (List ℕ))) (page at : ℕ) (bytes : List ℕ) (was slot : Option (List ℕ)) (m : PageMap) → page < length slots → present_from 0 slots ≡ m
    → was ≡ get_or slots page was → slot ≡ option_map (λ old. spliced old at bytes) was
    → IfSome (get m page) (λ old. present_from 0 (set slots page slot) ≡ insert m page (spliced old at bytes))
written_slot slots page at bytes was slot m inside is read e =
    let P : Option (List ℕ) → Type 0 = λ found. IfSome found (λ old. present_from 0 (set slots page slot) ≡ insert m page (spliced old at bytes)) in
    let same : was ≡ get m page = get_or_read slots page was inside read None ∙ sym (get-slots slots page) ∙ ap (λ n. get n page) is in
    subst P same (written_case slots page at bytes slot m inside is was e)

whole_found : (slot found : Option (List ℕ)) → slot ≡ found → ForSome slot (λ bytes. length bytes ≡ 4096) → IfSome found (λ bytes. length bytes ≡ 4096)
whole_found slot None is whole = tt
whole_found slot (Some bytes) is whole = whole bytes is

-- a page of slots has 4096 bytes
pub whole_slot : (slots : List (Option (List ℕ))) (page : ℕ) (m : PageMap) → page < length slots → AreSlots slots → present_from 0 slots ≡ m → IfSome (get m page) (λ bytes. length bytes ≡ 4096)
whole_slot slots page m inside are is =
    whole_found (get_or slots page None) (get m page) (sym (get-slots slots page) ∙ ap (λ n. get n page) is) (are.whole page None inside)
