-- Which pages may be written to, where those of a range are set.
use Rattle.std.proofs.Common.{◌≡◌, ◌≢◌, ℕ, zero, suc, ◌+◌, ◌<◌, ◌≤◌, List, [], ◌∷◌, length, Option, Some, None, refl, sym, ◌∙◌, ap, arith, inl, inr, ◌⊎◌}
use Rattle.std.specs.Prelude.{is_some, Bool, true, false, not, ◌&&◌, cond, nat_eq, slice_set}
use Rattle.std.specs.Option.{option_eq}
use Rattle.std.proofs.lemmas.Bool.{cases_eq, cases_lt, ne_eqb, and_parts, false≢true}
use Rattle.std.proofs.lemmas.Bool.Decides.{nat_tests}
use Rattle.std.proofs.lemmas.List.{get_or-replicate, get_or_past, get_or-set_same, get_or-set_other, length-replicate, length-set}
use Rattle.std.proofs.lemmas.List.FromFn.{length-map-range_with_len, get_or-map-range_with_len, fill_by_all}
use Rattle.vm_base.specs.FlatStep.{is_beyond}
use Rattle.kernel_meaning.specs.Leaves.{Versions, no_versions, version_at}
use Rattle.leaf_cell.specs.Inside.{is_apart}
use Rattle.leaf_cell.specs.Writable.{none_writable, writable_at, with_writable}
use Rattle.leaf_cell.proofs.AbsentPages.{version_at-none}

-- which pages lie among those that stay
pub beyond-within : (first n p : ℕ) → first ≤ p → p < first + n → is_beyond first n p ≡ false
beyond-within first n p above below = grind (arith, nat_tests)

pub beyond-outside : (first n p : ℕ) → (p < first) ⊎ (first + n ≤ p) → is_beyond first n p ≡ true
beyond-outside first n p outside = grind (arith, nat_tests)

pub never-writable : (page : ℕ) → writable_at none_writable page ≡ false
never-writable page = elim (cases_lt page 512) [
  | inl small ↦ get_or-replicate 512 page false false small
  | inr large ↦ get_or_past none_writable page false (rw (length-replicate {A = Bool} 512 false) large)
]

-- only a page of the table may be written to
pub writable-below : (writable : List Bool) (page : ℕ) → length writable ≡ 512 → writable_at writable page ≡ true → page < 512
writable-below writable page size may = elim (cases_lt page 512) [
  | inl small ↦ small
  | inr large ↦ absurd (false≢true (sym (get_or_past writable page false (omega (arith, size, large))) ∙ may))
]

module _ (test : ℕ → Bool) (first n : ℕ) (writable : List Bool) where
  pub length-with_writable : length (with_writable test first n writable) ≡ 512
  unfolding with_writable
  length-with_writable = length-map-range_with_len (λ page. cond (is_beyond first n page) (writable_at writable page) (test page)) 0 512

  pub writable_at-with : (page : ℕ) → page < 512 → writable_at (with_writable test first n writable) page ≡ cond (is_beyond first n page) (writable_at writable page) (test page)
  unfolding with_writable
  writable_at-with page small = get_or-map-range_with_len (λ page. cond (is_beyond first n page) (writable_at writable page) (test page)) 0 512 page page false small (omega arith)

  pub writable_at-within : (page : ℕ) → page < 512 → first ≤ page → page < first + n → writable_at (with_writable test first n writable) page ≡ test page
  writable_at-within page small above below = writable_at-with page small ∙ ap (λ b. cond b (writable_at writable page) (test page)) (beyond-within first n page above below)

  pub writable_at-outside : (page : ℕ) → page < 512 → (page < first) ⊎ (first + n ≤ page) → writable_at (with_writable test first n writable) page ≡ writable_at writable page
  writable_at-outside page small outside = writable_at-with page small ∙ ap (λ b. cond b (writable_at writable page) (test page)) (beyond-outside first n page outside)

  -- pages that are so, one by one, are so
  pub with_writable-is : (all : List Bool) → length all ≡ 512 → ((page : ℕ) → page < 512 → writable_at all page ≡ cond (is_beyond first n page) (writable_at writable page) (test page))
      → all ≡ with_writable test first n writable
  unfolding with_writable
  with_writable-is all size each = fill_by_all (λ page. cond (is_beyond first n page) (writable_at writable page) (test page)) all 512 false size each

  -- the same where each page of the range is as it was
  pub with_writable-same : length writable ≡ 512 → ((page : ℕ) → page < 512 → first ≤ page → page < first + n → test page ≡ writable_at writable page) → writable ≡ with_writable test first n writable
  with_writable-same size same = with_writable-is writable size (λ page small. by page small (is_beyond first n page) refl)
    where
      by : (page : ℕ) → page < 512 → (b : Bool) → is_beyond first n page ≡ b → writable_at writable page ≡ cond (is_beyond first n page) (writable_at writable page) (test page)
      by page small true is = sym (ap (λ b. cond b (writable_at writable page) (test page)) is)
      by page small false is = elim (cases_lt page first) [
        | inl below ↦ absurd (false≢true (sym is ∙ beyond-outside first n page (inl below)))
        | inr above ↦ elim (cases_lt page (first + n)) [
          | inl within ↦ sym (ap (λ b. cond b (writable_at writable page) (test page)) is ∙ same page small above within)
          | inr past ↦ absurd (false≢true (sym is ∙ beyond-outside first n page (inr past)))
        ]
      ]

module _ (test : ℕ → Bool) (first n : ℕ) (writable : List Bool) (page : ℕ) (place : first + n ≡ page) where
  abbrev before : List Bool
  before = with_writable test first n writable

  abbrev after : List Bool
  after = slice_set before page (test page)

  beyond-other : (k : ℕ) → k ≢ page → is_beyond first n k ≡ is_beyond first (n + 1) k
  beyond-other k other = grind (arith, nat_tests)

  -- one page more
  pub with_writable-next : page < 512 → slice_set (with_writable test first n writable) page (test page) ≡ with_writable test first (n + 1) writable
  with_writable-next small = with_writable-is test first (n + 1) writable after (length-set before page (test page) ∙ length-with_writable test first n writable)
      (λ k below. elim (cases_eq k page) [
        | inl same ↦ ap (writable_at after) same
            ∙ get_or-set_same before page (test page) false (rw (length-with_writable test first n writable) small)
            ∙ ap test (sym same)
            ∙ sym (ap (λ b. cond b (writable_at writable k) (test k)) (beyond-within first (n + 1) k (omega (arith, place, same)) (omega (arith, place, same))))
        | inr other ↦ get_or-set_other before page k (test page) false other
            ∙ writable_at-with test first n writable k below
            ∙ ap (λ b. cond b (writable_at writable k) (test k)) (beyond-other k other)
      ])

-- the same where the next page is as it was
pub with_writable-skip : (test : ℕ → Bool) (first n : ℕ) (writable : List Bool) (page : ℕ) → first + n ≡ page → test page ≡ writable_at writable page
    → with_writable test first n writable ≡ with_writable test first (n + 1) writable
with_writable-skip test first n writable page place same = with_writable-is test first (n + 1) writable (with_writable test first n writable) (length-with_writable test first n writable) (λ k below.
    writable_at-with test first n writable k below ∙ elim (cases_eq k page) [
      | inl here ↦ ap (λ b. cond b (writable_at writable k) (test k)) (beyond-outside first n k (inr (omega (arith, place, here))))
          ∙ ap (writable_at writable) here ∙ sym same ∙ ap test (sym here)
          ∙ sym (ap (λ b. cond b (writable_at writable k) (test k)) (beyond-within first (n + 1) k (omega (arith, place, here)) (omega (arith, place, here))))
      | inr other ↦ ap (λ b. cond b (writable_at writable k) (test k)) (beyond-other test first n writable page place k other)
    ])

-- no page of the table, where none passes the test
pub with_writable-none : (test : ℕ → Bool) (first n : ℕ) → ((page : ℕ) → test page ≡ false) → none_writable ≡ with_writable test first n none_writable
with_writable-none test first n fails = with_writable-same test first n none_writable (length-replicate {A = Bool} 512 false) (λ page small above below. fails page ∙ sym (never-writable page))

-- all pages were set, and none passes the test
pub with_writable-all : (test : ℕ → Bool) (writable : List Bool) → ((page : ℕ) → test page ≡ false) → with_writable test 0 512 writable ≡ none_writable
with_writable-all test writable fails = sym (with_writable-is test 0 512 writable none_writable (length-replicate {A = Bool} 512 false) (λ page small.
    never-writable page ∙ sym (ap (λ b. cond b (writable_at writable page) (test page)) (beyond-within 0 512 page (omega arith) (omega (arith, small))) ∙ fails page)))

-- one page was set
pub with_writable-one : (test : ℕ → Bool) (page : ℕ) (writable : List Bool) → length writable ≡ 512 → page < 512 → with_writable test page 1 writable ≡ slice_set writable page (test page)
with_writable-one test page writable size small =
    sym (ap (λ all. slice_set all page (test page)) (with_writable-same test page 0 writable size (λ k below above within. absurd (omega (arith, above, within))))
    ∙ with_writable-next test page 0 writable page (omega arith) small)

-- a page that may be written to is allowed once more
pub set-again : (writable : List Bool) (page : ℕ) → slice_set (slice_set writable page true) page true ≡ slice_set writable page true
set-again [] page = refl
set-again (w ∷ writable) zero = refl
set-again (w ∷ writable) (suc page) = ap (λ ws. w ∷ ws) (set-again writable page)

pub set-same : (writable : List Bool) (page : ℕ) → writable_at writable page ≡ true → writable ≡ slice_set writable page true
set-same [] page may = refl
set-same (w ∷ writable) zero may = ap (λ b. b ∷ writable) may
set-same (w ∷ writable) (suc page) may = ap (λ ws. w ∷ ws) (set-same writable page may)

-- where a page is that another table does not name at the same place
pub apart-is : (other places : Versions) (page place : ℕ) → version_at places page ≡ Some place → (version_at other page ≡ Some place → ⊥) → is_apart other places page ≡ true
apart-is other places page place there unnamed = ap (λ o. is_some o && not (option_eq nat_eq (version_at other page) o)) there ∙ by (version_at other page) refl
  where
    by : (o : Option ℕ) → version_at other page ≡ o → not (option_eq nat_eq o (Some place)) ≡ true
    by None is = refl
    by (Some q) is = ap not (ne_eqb q place (λ same. unnamed (is ∙ ap Some same)))

pub apart-same : (other a b : Versions) (page : ℕ) → version_at a page ≡ version_at b page → is_apart other a page ≡ is_apart other b page
apart-same other a b page same = ap (λ o. is_some o && not (option_eq nat_eq (version_at other page) o)) same

-- a page that is apart from a table is apart from one without a page
pub apart-alone : (other places : Versions) (page : ℕ) → is_apart other places page ≡ true → is_apart no_versions places page ≡ true
apart-alone other places page apart = by (version_at places page) (and_parts (is_some (version_at places page)) (not (option_eq nat_eq (version_at other page) (version_at places page))) apart).0
  where
    by : (o : Option ℕ) → is_some o ≡ true → (is_some o && not (option_eq nat_eq (version_at no_versions page) o)) ≡ true
    by None there = absurd (false≢true there)
    by (Some q) there = ap (λ o. not (option_eq nat_eq o (Some q))) (version_at-none page)

-- an absent page is not apart
pub absent-apart : (other places : Versions) (page : ℕ) → version_at places page ≡ None → is_apart other places page ≡ false
absent-apart other places page absent = ap (λ o. is_some o && not (option_eq nat_eq (version_at other page) o)) absent
