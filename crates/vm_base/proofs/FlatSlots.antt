-- When the slots suffice for the cells of a range.
use Rattle.std.proofs.Common.{◌≡◌, ℕ, zero, suc, ◌+◌, ◌-◌, ◌<◌, ◌≤◌, Bool, true, false, not, cond, eqb, List, [], ◌∷◌, length, filter, refl, sym, ◌∙◌, ap, subst, arith, inl, inr}
use Rattle.std.specs.Prelude.{◌&&◌, ◌||◌, ◌⊎◌, ◌==◌, Result, Ok, Err}
use Rattle.std.specs.Ordering.{nat_cmp}
use Rattle.std.specs.Cmp.{nat_cmp_total, unsigned_tied}
use Rattle.std.specs.FinMap.{nat_cmp-IsAntisymmetric}
use Rattle.std.specs.FinSet as set
use Rattle.std.specs.List.{range_with_len, list_any}
use Rattle.std.proofs.lemmas.Bool.{cases_Bool, cases_eq, cond-true, cond-false, le-ltb, or_cases, eqb-true, eq-eqb, ne_eqb, false≢true}
use Rattle.std.proofs.lemmas.List.FromFn.{length-range_with_len}
use Rattle.vm_base.specs.declared.faults.Fault.{Fault}
use Rattle.vm_base.specs.declared.faults.Fault.TheVariants.{CellsFull}
use Rattle.vm_base.specs.Places.{page_of, cell_of, cells_of_range}
use Rattle.vm_base.specs.FlatMemory.{FlatMemory}
use Rattle.vm_base.specs.FlatStep.{Refusal, OutsideAreas, ReadOnly, Taken, TooManyAreas, touch_of}
use Rattle.vm_base.specs.MemoryState.{Numbers, IsIn, IsListed}
use Rattle.vm_base.specs.MemoryCalls.{faulted, if_slots, is_out_of_slots}
use Rattle.vm_base.specs.FlatLaws.{SlotsSufficeAmong, SlotsSufficeBelow, OnlyAreasRefuse, SlotsAreNeverFull}
use Rattle.vm_base.proofs.FlatAreas.{listed-range}

contains-removed : (q c : ℕ) (numbers : Numbers) → set.contains (set.remove numbers c) q ≡ (not (eqb q c) && set.contains numbers q)
contains-removed q c numbers = set.contains-remove nat_cmp_total numbers c q ∙ ap (λ b. not b && set.contains numbers q) (unsigned_tied q c)

contains-inserted : (q c : ℕ) (numbers : Numbers) → set.contains (set.insert numbers c) q ≡ (eqb q c || set.contains numbers q)
contains-inserted q c numbers = set.contains-insert nat_cmp_total numbers c q ∙ ap (λ b. b || set.contains numbers q) (unsigned_tied q c)

-- a set whose numbers are all in a list has no more of them than the list
pub len-among : (cells : List ℕ) (numbers : Numbers) → ((q : ℕ) → IsIn q numbers → IsListed q cells) → set.len numbers ≤ length cells
len-among [] numbers among =
    let none : numbers ≡ set.empty = set.same_set nat_cmp_total nat_cmp-IsAntisymmetric numbers set.empty (λ q. by q (cases_Bool (set.contains numbers q))) in
    let nothing : set.len numbers ≡ 0 = ap set.len none ∙ set.len-empty nat_cmp in
    omega (arith, nothing)
  where
    by : (q : ℕ) → (set.contains numbers q ≡ true) ⊎ (set.contains numbers q ≡ false) → set.contains numbers q ≡ set.contains (set.empty {R = nat_cmp}) q
    by q (inl there) = absurd (false≢true (among q there))
    by q (inr absent) = absent ∙ sym (set.contains-empty nat_cmp q)
len-among (cell ∷ cells) numbers among =
    let rest : set.len (set.remove numbers cell) ≤ length cells = len-among cells (set.remove numbers cell) (λ q there. elim (cases_eq q cell) [
      | inl here ↦ absurd (false≢true (sym (contains-removed q cell numbers ∙ ap (λ b. not b && set.contains numbers q) (eq-eqb q cell here)) ∙ there))
      | inr apart ↦
          let inside : IsIn q numbers = sym (contains-removed q cell numbers ∙ ap (λ b. not b && set.contains numbers q) (ne_eqb q cell apart)) ∙ there in
          let other : eqb cell q ≡ false = ne_eqb cell q (λ same. apart (sym same)) in
          sym (ap (λ b. b || list_any (λ other. other == q) cells) other) ∙ among q inside
    ]) in
    let size : set.len (set.remove numbers cell) ≡ cond (set.contains numbers cell) (set.len numbers - 1) (set.len numbers) = set.len-remove nat_cmp_total numbers cell in
    elim (cases_Bool (set.contains numbers cell)) [
      | inl there ↦
          let fewer : set.len (set.remove numbers cell) ≡ set.len numbers - 1 = size ∙ cond-true (set.contains numbers cell) (set.len numbers - 1) (set.len numbers) there in
          omega (arith, rest, fewer)
      | inr absent ↦
          let same : set.len (set.remove numbers cell) ≡ set.len numbers = size ∙ cond-false (set.contains numbers cell) (set.len numbers - 1) (set.len numbers) absent in
          omega (arith, rest, same)
    ]

-- the numbers of a list that are in no set
abbrev lacking : Numbers → List ℕ → List ℕ
lacking used numbers = filter (λ n. not (set.contains used n)) numbers

-- a set and the numbers of a range that another lacks, which agrees with it from the range on, are no more than a list in which they all are
module _ (used : Numbers) (cells : List ℕ) where
  lacking-among : (n first : ℕ) (now : Numbers) → ((q : ℕ) → first ≤ q → set.contains now q ≡ set.contains used q) → ((q : ℕ) → IsIn q now → IsListed q cells)
      → ((q : ℕ) → first ≤ q → q < first + n → IsListed q cells) → set.len now + length (lacking used (range_with_len first n)) ≤ length cells
  lacking-among zero first now agrees among range = let all : set.len now ≤ length cells = len-among cells now among in omega (arith, all)
  lacking-among (suc n) first now agrees among range = elim (cases_Bool (set.contains used first)) [
    | inl there ↦
        let rest : set.len now + length (lacking used (range_with_len (first + 1) n)) ≤ length cells =
        lacking-among n (first + 1) now (λ q low. agrees q (omega arith)) among (λ q low high. range q (omega arith) (omega arith)) in
        let front : length (lacking used (range_with_len first (suc n))) ≡ length (lacking used (range_with_len (first + 1) n)) =
        ap (λ b. length (cond (not b) (first ∷ lacking used (range_with_len (first + 1) n)) (lacking used (range_with_len (first + 1) n)))) there in
        omega (arith, rest, front)
    | inr absent ↦
        let new : set.contains now first ≡ false = agrees first (omega arith) ∙ absent in
        let more : set.len (set.insert now first) ≡ set.len now + 1 =
        set.len-insert nat_cmp_total now first ∙ cond-false (set.contains now first) (set.len now) (set.len now + 1) new in
        let rest : set.len (set.insert now first) + length (lacking used (range_with_len (first + 1) n)) ≤ length cells =
        lacking-among n (first + 1) (set.insert now first)
        (λ q low. contains-inserted q first now ∙ ap (λ b. b || set.contains now q) (ne_eqb q first (λ same. omega arith)) ∙ agrees q (omega arith))
        (λ q there. elim (or_cases (eqb q first) (set.contains now q) (sym (contains-inserted q first now) ∙ there)) [
          | inl here ↦ subst (λ c. IsListed c cells) (sym (eqb-true q first here)) (range first (omega arith) (omega arith))
          | inr before ↦ among q before
        ])
        (λ q low high. range q (omega arith) (omega arith)) in
        let front : length (lacking used (range_with_len first (suc n))) ≡ suc (length (lacking used (range_with_len (first + 1) n))) =
        ap (λ b. length (cond (not b) (first ∷ lacking used (range_with_len (first + 1) n)) (lacking used (range_with_len (first + 1) n)))) absent in
        omega (arith, rest, front, more)
  ]

pub slots-among : SlotsSufficeAmong
slots-among state address n cells used range enough = elim (cases_eq n 0) [
  | inl none ↦
      let nothing : cells_of_range address n ≡ [] = cond-true (eqb n 0) [] _ (eq-eqb n 0 none) in
      let size : length (lacking state.used (cells_of_range address n)) ≡ 0 = ap (λ cs. length (lacking state.used cs)) nothing in
      le-ltb (state.slots - set.len state.used) (length (lacking state.used (cells_of_range address n))) (omega (arith, size))
  | inr some ↦
      let first : ℕ = cell_of (page_of address) in
      let count : ℕ = cell_of (page_of (address + n - 1)) + 1 - cell_of (page_of address) in
      let whole : cells_of_range address n ≡ range_with_len first count = cond-false (eqb n 0) [] _ (ne_eqb n 0 some) in
      let few : set.len state.used + length (lacking state.used (range_with_len first count)) ≤ length cells =
      lacking-among state.used cells count first state.used (λ q low. refl) used
      (λ q low high. range q (subst (IsListed q) (sym whole) (listed-range count first q low high))) in
      let size : length (lacking state.used (cells_of_range address n)) ≡ length (lacking state.used (range_with_len first count)) = ap (λ cs. length (lacking state.used cs)) whole in
      le-ltb (state.slots - set.len state.used) (length (lacking state.used (cells_of_range address n))) (omega (arith, few, size, enough))
]

pub slots-below : SlotsSufficeBelow
slots-below state address n limit used range enough =
    slots-among state address n (range_with_len 0 limit)
    (λ cell there. let low : cell < limit = used cell there in listed-range limit 0 cell (omega arith) (omega (arith, low)))
    (λ cell there. let low : cell < limit = range cell there in listed-range limit 0 cell (omega arith) (omega (arith, low)))
    (let size : length (range_with_len 0 limit) ≡ limit = length-range_with_len 0 limit in omega (arith, size, enough))

answered : (out : Bool) (answer : Result FlatMemory Fault) → out ≡ false → if_slots out answer ≡ answer
answered out (Err fault) enough = refl
answered out (Ok memory) enough = cond-false out (Err CellsFull) (Ok memory) enough

pub touch_answer-areas : OnlyAreasRefuse
touch_answer-areas state address n enough = answered (is_out_of_slots state address n) (faulted (touch_of state.mem address n)) enough

not_full : (answer : Result FlatMemory Refusal) → faulted answer ≡ Err CellsFull → ⊥
not_full (Ok memory) full = cc
not_full (Err (OutsideAreas page)) full = cc
not_full (Err (ReadOnly page)) full = cc
not_full (Err (Taken page)) full = cc
not_full (Err TooManyAreas) full = cc

pub slots-never_full : SlotsAreNeverFull
slots-never_full old new address n enough fails = not_full (touch_of old.mem address n) (sym (touch_answer-areas old address n enough) ∙ fails.0)
