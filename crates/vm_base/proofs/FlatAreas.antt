-- Which ranges no area refuses, and the cells of a range.
use Rattle.std.proofs.Common.{◌≡◌, ℕ, zero, suc, ◌+◌, ◌-◌, ◌*◌, ◌<◌, ◌≤◌, Bool, true, false, not, cond, eqb, leb, ltb, List, [], ◌∷◌, length, get_or, Option, Some, None, refl, sym, ◌∙◌, ap, subst, arith, inl, inr}
use Rattle.std.specs.Prelude.{is_some, ◌||◌, ◌==◌, Ok, All}
use Rattle.std.specs.List.{range_with_len, list_any}
use Rattle.std.proofs.lemmas.Bool.{cases_Bool, cases_eq, cond-true, cond-false, not-false, and_right, lt-ltb, le-ltb, le-leb, and_from, and_left, lt-leb, or_cases, eqb-true, eq-eqb, ne_eqb, false≢true}
use Rattle.std.proofs.lemmas.List.Elements.{All-head, All-tail}
use Rattle.vm_base.specs.Places.{page_of, cell_of, page_count, cells_of_range}
use Rattle.vm_base.specs.FlatMemory.{Area, AreInOrder, holds, area_of, bytes_at}
use Rattle.vm_base.specs.FlatStep.{OutsideAreas, ReadOnly, lowest, unwritable, is_read_only, or_refused}
use Rattle.vm_base.specs.MemoryState.{IsListed}
use Rattle.vm_base.specs.MemoryCalls.{IsInRange, touched}
use Rattle.vm_base.specs.FlatLaws.{AreApart, HasAll, HasBytes, AreasAreFound, AnAreaIsNotMissed, NoneIsOutside, AWritableAreaIsFound, NoneIsReadOnly, AreasApartTakeNone, NoneIsTaken, RangesOfAnAreaAreRead, RangesOfAnAreaAreTouched, CellsAreThoseOfPages}

-- ---- the lowest number of a range that passes a test
pub lowest_nowhere : (n : ℕ) (test : ℕ → Bool) (first : ℕ) → ((q : ℕ) → first ≤ q → q < first + n → test q ≡ false) → lowest test first n ≡ None
lowest_nowhere zero test first fails = refl
lowest_nowhere (suc n) test first fails =
    cond-false (test first) _ _ (fails first (omega arith) (omega arith)) ∙ lowest_nowhere n test (first + 1) (λ q le lt. fails q (omega arith) (omega arith))

-- where none passes, each fails
pub fails_below : (n : ℕ) (test : ℕ → Bool) (first : ℕ) → lowest test first n ≡ None → (q : ℕ) → first ≤ q → q < first + n → test q ≡ false
fails_below zero test first none q le lt = absurd (omega arith)
fails_below (suc n) test first none q le lt = elim (cases_Bool (test first)) [
  | inl passes ↦
      let some : lowest test first (suc n) ≡ Some first = cond-true (test first) _ _ passes in
      absurd cc
  | inr fails ↦ elim (cases_eq first q) [
    | inl here ↦ ap test (sym here) ∙ fails
    | inr apart ↦ fails_below n test (first + 1) (sym (cond-false (test first) (Some first) (lowest test (first + 1) n) fails) ∙ none) q (omega arith) (omega arith)
  ]
]

-- ---- the area of a page
holds_there : (area : Area) (page : ℕ) → area.first ≤ page → page < area.first + area.pages → holds area page ≡ true
holds_there area page low high = and_from (leb area.first page) (ltb page (area.first + area.pages)) (le-leb area.first page low) (lt-ltb page (area.first + area.pages) high)

holds_not_behind : (area : Area) (page : ℕ) → area.first + area.pages ≤ page → holds area page ≡ false
holds_not_behind area page behind = and_right (leb area.first page) (ltb page (area.first + area.pages)) (le-ltb page (area.first + area.pages) behind)

holds_not_before : (area : Area) (page : ℕ) → page < area.first → holds area page ≡ false
holds_not_before area page before = and_left (leb area.first page) (ltb page (area.first + area.pages)) (lt-leb area.first page before)

-- some area has the page where one of them does
has_area : (areas : List Area) (k : ℕ) (area : Area) (page : ℕ) → k < length areas → get_or areas k area ≡ area → holds area page ≡ true → is_some (area_of areas page) ≡ true
has_area [] k area page inside is held = absurd (omega arith)
has_area (other ∷ areas) zero area page inside is held =
    ap is_some (cond-true (holds other page) (Some other) (area_of areas page) (subst (λ (a : Area). holds a page ≡ true) (sym is) held))
has_area (other ∷ areas) (suc k) area page inside is held = elim (cases_Bool (holds other page)) [
  | inl here ↦ ap is_some (cond-true (holds other page) (Some other) (area_of areas page) here)
  | inr passed ↦ ap is_some (cond-false (holds other page) (Some other) (area_of areas page) passed) ∙ has_area areas k area page (omega arith) is held
]

-- an area in order ends where a later one begins, or before
ends_before : (front : Area) (areas : List Area) (k : ℕ) (area : Area) → AreInOrder (front ∷ areas) → k < length areas → get_or areas k area ≡ area → front.first + front.pages ≤ area.first
ends_before front [] k area order inside is = absurd (omega arith)
ends_before front (next ∷ areas) zero area order inside is = subst (λ (a : Area). front.first + front.pages ≤ a.first) is order.1
ends_before front (next ∷ areas) (suc k) area order inside is =
    let later : next.first + next.pages ≤ area.first = ends_before next areas k area order.3 (omega arith) is in
    omega (arith, order.1, later)

order_behind : (front : Area) (areas : List Area) → AreInOrder (front ∷ areas) → AreInOrder areas
order_behind front [] order = tt
order_behind front (next ∷ areas) order = order.3

pub area_of-found : AreasAreFound
area_of-found areas area page order member among = by areas member.0 order member.1 member.2
  where
    by : (areas : List Area) (k : ℕ) → AreInOrder areas → k < length areas → get_or areas k area ≡ area → area_of areas page ≡ Some area
    by [] k order inside is = absurd (omega arith)
    by (front ∷ areas) zero order inside is =
        cond-true (holds front page) (Some front) (area_of areas page) (subst (λ (a : Area). holds a page ≡ true) (sym is) (holds_there area page among.0 among.1)) ∙ ap Some is
    by (front ∷ areas) (suc k) order inside is =
        let end : front.first + front.pages ≤ area.first = ends_before front areas k area order (omega arith) is in
        cond-false (holds front page) (Some front) (area_of areas page) (holds_not_behind front page (omega (arith, end, among.0)))
        ∙ by areas k (order_behind front areas order) (omega arith) is

-- ---- pages outside, of areas that may only be read, and taken
pub outside-none : NoneIsOutside
outside-none areas first n = (
  λ none page among. not-false (is_some (area_of areas page)) (fails_below n (λ page. not (is_some (area_of areas page))) first none page among.0 among.1),
  λ each. lowest_nowhere n (λ page. not (is_some (area_of areas page))) first (λ q low high. ap not (each q (low, high))),
)

pub outside-in_area : AnAreaIsNotMissed
outside-in_area areas area first n member has =
    (outside-none areas first n).1 (λ page among. has_area areas member.0 area page member.1 member.2 (holds_there area page (omega (arith, has.0, among.0)) (omega (arith, has.1, among.1))))

pub unwritable-none : NoneIsReadOnly
unwritable-none areas first n = (
  λ none page among. fails_below n (λ page. is_read_only (area_of areas page)) first none page among.0 among.1,
  λ each. lowest_nowhere n (λ page. is_read_only (area_of areas page)) first (λ q low high. each q (low, high)),
)

pub unwritable-in_area : AWritableAreaIsFound
unwritable-in_area areas area first n order member has writable =
    (unwritable-none areas first n).1 (λ page among.
    ap is_read_only (area_of-found areas area page order member (omega (arith, has.0, among.0), omega (arith, has.1, among.1))) ∙ ap not writable)

none_of : {X : Type 0} (o : Option X) → is_some o ≡ false → o ≡ None
none_of None absent = refl
none_of (Some x) absent = absurd (false≢true (sym absent))

pub taken-none : NoneIsTaken
taken-none areas first n = (
  λ none page among. none_of (area_of areas page) (fails_below n (λ page. is_some (area_of areas page)) first none page among.0 among.1),
  λ each. lowest_nowhere n (λ page. is_some (area_of areas page)) first (λ q low high. ap is_some (each q (low, high))),
)

pub taken-apart : AreasApartTakeNone
taken-apart areas first n apart = (taken-none areas first n).1 (λ page among. by areas page among.0 among.1 apart)
  where
    by : (areas : List Area) (page : ℕ) → first ≤ page → page < first + n → All (λ (area : Area). AreApart area.first area.pages first n) areas → area_of areas page ≡ None
    by [] page low high apart = refl
    by (area ∷ areas) page low high apart =
        cond-false (holds area page) (Some area) (area_of areas page) (elim (All-head (λ (area : Area). AreApart area.first area.pages first n) area areas apart) [
          | inl below ↦ holds_not_behind area page (omega arith)
          | inr behind ↦ holds_not_before area page (omega arith)
        ]) ∙ by areas page low high (All-tail (λ (area : Area). AreApart area.first area.pages first n) area areas apart)

-- ---- ranges of bytes
-- the pages of a range lie in an area that has its bytes
has_pages : (area : Area) (address n : ℕ) → HasBytes area address n → HasAll area (page_of address) (page_count address n)
has_pages area address n has = elim (cases_eq n 0) [
  | inl none ↦
      let nothing : page_count address n ≡ 0 = cond-true (eqb n 0) 0 _ (eq-eqb n 0 none) in
      (omega (arith, has.0), omega (arith, has.1, nothing))
  | inr some ↦
      let count : page_count address n ≡ page_of (address + n - 1) + 1 - page_of address = cond-false (eqb n 0) 0 _ (ne_eqb n 0 some) in
      (omega (arith, has.0), omega (arith, has.1, count, some))
]

pub read_of-in_area : RangesOfAnAreaAreRead
read_of-in_area memory area address n member has =
    ap (λ found. or_refused OutsideAreas found (Ok (bytes_at memory.present address n)))
    (outside-in_area memory.areas area (page_of address) (page_count address n) member (has_pages area address n has))

pub touch_of-in_area : RangesOfAnAreaAreTouched
touch_of-in_area memory area address n order member has writable =
    ap (λ found. or_refused OutsideAreas found (or_refused ReadOnly (unwritable memory.areas (page_of address) (page_count address n)) (Ok (touched memory address n))))
    (outside-in_area memory.areas area (page_of address) (page_count address n) member (has_pages area address n has))
    ∙ ap (λ found. or_refused ReadOnly found (Ok (touched memory address n)))
    (unwritable-in_area memory.areas area (page_of address) (page_count address n) order member (has_pages area address n has) writable)

-- ---- the cells of a range
pub listed-range : (n first q : ℕ) → first ≤ q → q < first + n → IsListed q (range_with_len first n)
listed-range zero first q low high = absurd (omega arith)
listed-range (suc n) first q low high = elim (cases_eq first q) [
  | inl here ↦ ap (λ b. b || list_any (λ other. other == q) (range_with_len (first + 1) n)) (eq-eqb first q here)
  | inr apart ↦ ap (λ b. b || list_any (λ other. other == q) (range_with_len (first + 1) n)) (ne_eqb first q apart) ∙ listed-range n (first + 1) q (omega arith) (omega arith)
]

pub range-listed : (n first q : ℕ) → IsListed q (range_with_len first n) → (first ≤ q) × (q < first + n)
range-listed zero first q listed = absurd (false≢true listed)
range-listed (suc n) first q listed = elim (or_cases (eqb first q) (list_any (λ other. other == q) (range_with_len (first + 1) n)) listed) [
  | inl here ↦ let same : first ≡ q = eqb-true first q here in (omega arith, omega arith)
  | inr later ↦ let known = range-listed n (first + 1) q later in (omega (arith, known.0), omega (arith, known.1))
]

-- the cell of a page of the range is one of its cells
pub listed-page : (addr len page : ℕ) → page_of addr ≤ page → page < page_of addr + page_count addr len → IsListed (cell_of page) (cells_of_range addr len)
listed-page addr zero page low high = absurd (omega arith)
listed-page addr (suc n) page low high =
    let whole : page_count addr (suc n) ≡ page_of (addr + suc n - 1) + 1 - page_of addr =
    ap (λ b. cond b 0 (page_of (addr + suc n - 1) + 1 - page_of addr)) (ne_eqb (suc n) 0 (λ none. omega arith)) in
    let last : page ≤ page_of (addr + suc n - 1) = omega (arith, whole, low, high) in
    let above : cell_of page ≤ cell_of (page_of (addr + suc n - 1)) = omega (arith, last) in
    let below : cell_of (page_of addr) ≤ cell_of page = omega (arith, low) in
    let cells : cells_of_range addr (suc n) ≡ range_with_len (cell_of (page_of addr)) (cell_of (page_of (addr + suc n - 1)) + 1 - cell_of (page_of addr)) =
    ap (λ b. cond b [] (range_with_len (cell_of (page_of addr)) (cell_of (page_of (addr + suc n - 1)) + 1 - cell_of (page_of addr)))) (ne_eqb (suc n) 0 (λ none. omega arith)) in
    subst (IsListed (cell_of page)) (sym cells)
    (listed-range (cell_of (page_of (addr + suc n - 1)) + 1 - cell_of (page_of addr)) (cell_of (page_of addr)) (cell_of page) below (omega (arith, above, below)))

-- a cell of the range has a page of it: the first of the range, or the first of the cell
page_of_cell : (address n cell : ℕ) → IsListed cell (cells_of_range address n) → (page : ℕ) × (IsInRange page address n × (cell_of page ≡ cell))
page_of_cell address zero cell listed = absurd (false≢true listed)
page_of_cell address (suc n) cell listed =
    let some : (suc n ≡ 0) → ⊥ = λ none. omega arith in
    let count : page_count address (suc n) ≡ page_of (address + suc n - 1) + 1 - page_of address = cond-false (eqb (suc n) 0) 0 _ (ne_eqb (suc n) 0 some) in
    let cells : cells_of_range address (suc n) ≡ range_with_len (cell_of (page_of address)) (cell_of (page_of (address + suc n - 1)) + 1 - cell_of (page_of address)) =
    cond-false (eqb (suc n) 0) [] _ (ne_eqb (suc n) 0 some) in
    let known = range-listed (cell_of (page_of (address + suc n - 1)) + 1 - cell_of (page_of address)) (cell_of (page_of address)) cell (subst (IsListed cell) cells listed) in
    elim (cases_eq cell (cell_of (page_of address))) [
      | inl here ↦ (page_of address, ((omega arith, omega (arith, count)), sym here))
      | inr apart ↦
          let above : cell_of (page_of address) < cell = omega (arith, known.0, apart) in
          let last : cell ≤ cell_of (page_of (address + suc n - 1)) = omega (arith, known.1, above) in
          (cell * 512, ((omega (arith, above), omega (arith, count, last, above)), omega arith))
    ]

pub cells-of_pages : CellsAreThoseOfPages
cells-of_pages address n cell = (
  page_of_cell address n cell,
  λ there. subst (λ c. IsListed c (cells_of_range address n)) there.1.1 (listed-page address n there.0 there.1.0.0 there.1.0.1),
)
