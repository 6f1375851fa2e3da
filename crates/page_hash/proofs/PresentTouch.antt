-- A touch of pages that are all present: it is not refused, and leaves the memory as it was.
use Rattle.std.proofs.Common.{◌≡◌, ℕ, zero, suc, ◌+◌, ◌<◌, ◌≤◌, ◌⊎◌, eqb, false, List, [], ◌++◌, Result, Ok, Err, OnOk, IfErr, Option, Some, None, IsSome, refl, sym, ◌∙◌, ap, arith, inl, inr, Contains}
use Rattle.std.specs.Prelude.{IsTrue, IsNone}
use Rattle.std.specs.FinMap.{get}
use Rattle.std.specs.List.{list_any, range_with_len}
use Rattle.std.proofs.lemmas.Bool.{or_left, or_right, false≢true, eq-eqb}
use Rattle.std.proofs.lemmas.List.Folds.{list_any-append}
use Rattle.vm_base.specs.declared.faults.Fault.{Fault}
use Rattle.vm_base.specs.declared.faults.Fault.TheVariants.{NoArea, NoWrite, NoFrame, Overlap, AreasFull, CellsFull}
use Rattle.vm_base.specs.Places.{page_of, page_count, cells_of_range}
use Rattle.vm_base.specs.FlatMemory.{Area, PageMap, FlatMemory}
use Rattle.vm_base.specs.FlatStep.{with_pages, is_writable}
use Rattle.vm_base.specs.FlatLaws.{HasBytes, HasNumbersOf}
use Rattle.vm_base.specs.MemoryState.{MemoryState, IsMemory, IsListed, KeepsReady, own_of}
use Rattle.vm_base.specs.MemoryCalls.{IsReady, IsInRange, Touches, TouchFails, touched, touch_answer, is_out_of_slots, faulted}
use Rattle.vm_base.proofs.FlatAreas.{touch_of-in_area, listed-range}
use Rattle.vm_base.proofs.FlatPages.{with_page_there}
use Rattle.vm_base.proofs.FlatSlots.{slots-among, touch_answer-areas}
use Rattle.store_meaning.specs.Layout.{store_cells}
use Rattle.store_meaning.specs.Standing.{MayHoldStore}
use Rattle.page_heap.proofs.Mapped.{one_memory, no_fault}

-- ---- the cells of a store

-- the cells of the four regions
abbrev pub IsOfRegions : ℕ → Type 0
IsOfRegions cell = (cell ≡ 1) ⊎ ((1024 ≤ cell) × (cell < 1088)) ⊎ ((2048 ≤ cell) × (cell < 2112)) ⊎ ((4096 ≤ cell) × (cell < 4353))

listed_left : (cell : ℕ) (xs ys : List ℕ) → IsListed cell xs → IsListed cell (xs ++ ys)
listed_left cell xs ys there = list_any-append (λ other. eqb other cell) xs ys ∙ or_left _ _ there

listed_right : (cell : ℕ) (xs ys : List ℕ) → IsListed cell ys → IsListed cell (xs ++ ys)
listed_right cell xs ys there =
    list_any-append (λ other. eqb other cell) xs ys ∙ or_right (list_any (λ other. eqb other cell) xs) _ there

abbrev heap_cells : List ℕ
heap_cells = range_with_len 4096 257 ++ []

abbrev upper_cells : List ℕ
upper_cells = range_with_len 2048 64 ++ heap_cells

pub region_listed : (cell : ℕ) → IsOfRegions cell → IsListed cell store_cells
region_listed cell (inl first) = or_left (eqb 1 cell) _ (eq-eqb 1 cell (sym first))
region_listed cell (inr (inl array)) = or_right (eqb 1 cell) _
    (listed_left cell (range_with_len 1024 64) upper_cells (listed-range 64 1024 cell array.0 (omega (arith, array.1))))
region_listed cell (inr (inr (inl array))) = or_right (eqb 1 cell) _
    (listed_right cell (range_with_len 1024 64) upper_cells
    (listed_left cell (range_with_len 2048 64) heap_cells (listed-range 64 2048 cell array.0 (omega (arith, array.1)))))
region_listed cell (inr (inr (inr heap))) = or_right (eqb 1 cell) _
    (listed_right cell (range_with_len 1024 64) upper_cells
    (listed_right cell (range_with_len 2048 64) heap_cells
    (listed_left cell (range_with_len 4096 257) [] (listed-range 257 4096 cell heap.0 (omega (arith, heap.1))))))

-- ---- the touch

-- touching pages that are present changes nothing
pub touched_there : (n : ℕ) (present : PageMap) (first : ℕ)
    → ((page : ℕ) → first ≤ page → page < first + n → IsSome (get present page)) → with_pages present first n ≡ present
touched_there zero present first there = refl
touched_there (suc n) present first there =
    let here = with_page_there present first (there first (omega arith) (omega arith)) in
    ap (λ p. with_pages p (first + 1) n) here
    ∙ touched_there n present (first + 1) (λ page low high. there page (omega (arith, low)) (omega (arith, high)))

-- each page of the range is present
abbrev pub AreThere : FlatMemory → ℕ → ℕ → Type 0
AreThere memory address n = (page : ℕ) → IsInRange page address n → IsSome (get memory.present page)

pub touched_same : (memory : FlatMemory) (address n : ℕ) → AreThere memory address n → touched memory address n ≡ memory
touched_same memory address n there = ap (λ p. record memory { present = p })
    (touched_there (page_count address n) memory.present (page_of address) (λ page low high. there page (low, high)))

-- areas and slots don't refuse it
pub region_answer : (state : MemoryState) (area : Area) (address n : ℕ) → IsMemory state → MayHoldStore state
    → Contains state.mem.areas area → HasBytes area address n → IsTrue (is_writable area.perm)
    → HasNumbersOf store_cells (cells_of_range address n)
    → touch_answer state address n ≡ Ok (touched state.mem address n)
region_answer state area address n sound may listed has writable cells =
    let slots : is_out_of_slots state address n ≡ false =
    slots-among state address n store_cells may.used cells may.slots in
    touch_answer-areas state address n slots
    ∙ ap faulted (touch_of-in_area state.mem area address n sound.flat.in_order listed has writable)

-- what is left behind it
pub record TouchesPresent (old new : MemoryState) (address n : ℕ) : Type 0 where
  pub mem : new.mem ≡ old.mem
  pub most : new.most ≡ old.most
  pub ready : IsReady new address n
  pub keeps : KeepsReady old new

none_there : (page : Option (List ℕ)) → IsNone page → IsSome page → ⊥
none_there None none some = false≢true some
none_there (Some bytes) none some = false≢true (sym none)

never_fails : (old new : MemoryState) (address n : ℕ) (fault : Fault) → touch_answer old address n ≡ Ok (touched old.mem address n)
    → AreThere old.mem address n → TouchFails old new address n fault → ⊥
never_fails old new address n (NoFrame at page) answer there fails =
    none_there (get old.mem.present page) fails.absent (there page fails.range)
never_fails old new address n (NoArea page) answer there fails = no_fault _ _ _ answer fails.0
never_fails old new address n (NoWrite page) answer there fails = no_fault _ _ _ answer fails.0
never_fails old new address n (Overlap page) answer there fails = fails
never_fails old new address n AreasFull answer there fails = fails
never_fails old new address n CellsFull answer there fails = no_fault _ _ _ answer fails.0

pub touch_made : (old new : MemoryState) (result : Result (Unit {0}) Fault) (address n : ℕ) → IsMemory old
    → touch_answer old address n ≡ Ok (touched old.mem address n) → AreThere old.mem address n
    → OnOk result (Touches old new address n) → IfErr result (λ fault. TouchFails old new address n fault)
    → TouchesPresent old new address n
touch_made old new (Ok done) address n sound answer there touches fails =
    let same = touched_same old.mem address n there in
    let frames : own_of (touched old.mem address n) ≡ own_of old.mem = ap own_of same in
    record {
      mem = one_memory (touch_answer old address n) _ new.mem answer touches.mem ∙ same;
      most = omega (arith, touches.most, frames, sound.own);
      ready = touches.ready;
      keeps = touches.keeps;
    }
touch_made old new (Err fault) address n sound answer there touches fails =
    absurd (never_fails old new address n fault answer there fails)
