-- Touches of ranges of a store: what they leave, and that only a frame can be wanting.
use Rattle.std.proofs.Common.{◌≡◌, ℕ, zero, suc, ◌+◌, ◌*◌, ◌<◌, ◌≤◌, List, [], Result, Ok, Err, OnOk, IfErr, is_ok, IsSome, refl, sym, ◌∙◌, ap, arith, inl, inr, eqb, max}
use Rattle.std.specs.Prelude.{◌-◌, Option, IsNone}
use Rattle.std.specs.FinMap.{get}
use Rattle.std.proofs.lemmas.Bool.{cases_eq, cond-true, cond-false, false≢true, eq-eqb, ne_eqb}
use Rattle.vm_base.specs.declared.faults.Fault.{Fault}
use Rattle.vm_base.specs.declared.faults.Fault.TheVariants.{NoArea, NoWrite, NoFrame, Overlap, AreasFull, CellsFull}
use Rattle.vm_base.specs.Places.{page_of, page_count, cells_of_range}
use Rattle.vm_base.specs.FlatMemory.{FlatMemory, PageMap}
use Rattle.vm_base.specs.FlatStep.{with_pages}
use Rattle.vm_base.specs.MemoryState.{MemoryState, IsMemory, IsKept, own_of}
use Rattle.vm_base.specs.MemoryCalls.{IsInRange, Touches, TouchFails, Refuses, faulted, touch_answer, touched}
use Rattle.vm_base.proofs.FlatAreas.{touch_of-in_area}
use Rattle.vm_base.proofs.FlatSlots.{slots-among, touch_answer-areas}
use Rattle.vm_base.proofs.FlatPages.{with_page_there}
use Rattle.vm_base.proofs.IsKeptOn.{IsKept-on}
use Rattle.store_meaning.specs.Layout.{store_cells}
use Rattle.store_meaning.specs.HeapLayout.{ArePresent}
use Rattle.store_meaning.specs.Standing.{MayHoldStore}
use Rattle.page_hash.specs.Touching.{IsOfStore, MakesPresent, LacksStorePage, MakesReady, told_count}

-- a touch of a range of a store is answered with the memory whose pages are present
pub touch_granted : (state : MemoryState) (address n : ℕ) → IsMemory state → MayHoldStore state → IsOfStore state.mem address n
    → touch_answer state address n ≡ Ok (touched state.mem address n)
touch_granted state address n sound may is =
    touch_answer-areas state address n (slots-among state address n store_cells may.used is.cells may.slots)
    ∙ ap faulted (touch_of-in_area state.mem is.area address n sound.flat.in_order is.listed is.has is.writable)

ok_same : (one two : FlatMemory) (answer : Result FlatMemory Fault) → answer ≡ Ok one → answer ≡ Ok two → one ≡ two
ok_same one two answer first second = ap memory_in (sym first ∙ second)
  where
    memory_in : Result FlatMemory Fault → FlatMemory
    memory_in (Ok memory) = memory
    memory_in (Err fault) = one

-- a touch that was made
pub makes_present : (old new : MemoryState) (address n : ℕ) → IsMemory old → MayHoldStore old → IsOfStore old.mem address n
    → Touches old new address n → MakesPresent old new address n
makes_present old new address n sound may is touches = record {
  mem = ok_same new.mem (touched old.mem address n) (touch_answer old address n) touches.mem (touch_granted old address n sound may is);
  most = touches.most;
  ready = touches.ready;
  keeps = touches.keeps;
}

never_refused : (old new : MemoryState) (address n : ℕ) (fault : Fault) → IsMemory old → MayHoldStore old → IsOfStore old.mem address n
    → Refuses old new (touch_answer old address n) fault → ⊥
never_refused old new address n fault sound may is refuses =
    false≢true (sym (ap is_ok refuses.0) ∙ ap is_ok (touch_granted old address n sound may is))

-- a touch that was refused
pub lacks_page : (old new : MemoryState) (address n at : ℕ) (fault : Fault) → IsMemory old → MayHoldStore old → IsOfStore old.mem address n
    → TouchFails old new address n fault → at ≡ told_count fault → LacksStorePage old new address n at
lacks_page old new address n at (NoFrame count page) sound may is fails told = record {
  rose = fails.rose;
  told = told ∙ fails.told;
  page = page;
  range = fails.range;
  absent = fails.absent;
  mem = fails.mem;
  most = fails.most;
}
lacks_page old new address n at (NoArea page) sound may is fails told =
    absurd (never_refused old new address n (NoArea page) sound may is fails)
lacks_page old new address n at (NoWrite page) sound may is fails told =
    absurd (never_refused old new address n (NoWrite page) sound may is fails)
lacks_page old new address n at (Overlap page) sound may is fails told = absurd fails
lacks_page old new address n at AreasFull sound may is fails told = absurd fails
lacks_page old new address n at CellsFull sound may is fails told =
    absurd (never_refused old new address n CellsFull sound may is fails)

-- pages that are present all are as they were behind a touch
pub touched_there : (n : ℕ) (present : PageMap) (first : ℕ) → ((page : ℕ) → first ≤ page → page < first + n → IsSome (get present page))
    → with_pages present first n ≡ present
touched_there zero present first there = refl
touched_there (suc n) present first there =
    let here = with_page_there present first (there first (omega arith) (omega arith)) in
    ap (λ p. with_pages p (first + 1) n) here
    ∙ touched_there n present (first + 1) (λ page low high. there page (omega (arith, low)) (omega (arith, high)))

pub touched_same : (memory : FlatMemory) (address n : ℕ) → 0 < n → ArePresent memory address n → touched memory address n ≡ memory
touched_same memory address n some there =
    let count : page_count address n ≡ page_of (address + n - 1) + 1 - page_of address =
    cond-false (eqb n 0) 0 _ (ne_eqb n 0 (λ none. omega (arith, none, some))) in
    ap (λ p. record memory { present = p }) (touched_there (page_count address n) memory.present (page_of address)
    (λ page low high. there page (omega (arith, low)) (omega (arith, high, count, some))))

-- a touch of present pages, whatever it answered, has changed nothing
pub makes_ready : (old new : MemoryState) (address n : ℕ) → IsMemory old → 0 < n → ArePresent old.mem address n
    → MakesPresent old new address n → MakesReady old new address n
makes_ready old new address n sound some there makes =
    let same = touched_same old.mem address n some there in
    record {
      mem = makes.mem ∙ same;
      most = makes.most ∙ ap (λ m. max old.most (own_of m)) same ∙ omega (arith, sound.own);
      ready = makes.ready;
      keeps = makes.keeps;
    }

pub absent_not : (page : Option (List ℕ)) → IsNone page → IsSome page → ⊥
absent_not page absent there = false≢true (sym absent ∙ there)

-- a page of a range meets it
pub meets_range : (address n page : ℕ) → IsInRange page address n → (address < (page + 1) * 4096) × (page * 4096 < address + n)
meets_range address n page inside = elim (cases_eq n 0) [
  | inl none ↦
      let count : page_count address n ≡ 0 = cond-true (eqb n 0) 0 _ (eq-eqb n 0 none) in
      absurd (omega (arith, inside.0, inside.1, count))
  | inr some ↦
      let count : page_count address n ≡ page_of (address + n - 1) + 1 - page_of address = cond-false (eqb n 0) 0 _ (ne_eqb n 0 some) in
      (omega (arith, inside.0), omega (arith, inside.1, count, some))
]

pub lacks_none : (old new : MemoryState) (address n at : ℕ) → ArePresent old.mem address n → LacksStorePage old new address n at → ⊥
lacks_none old new address n at there lacks =
    let meets = meets_range address n lacks.page lacks.range in
    absent_not (get old.mem.present lacks.page) lacks.absent (there lacks.page meets.0 meets.1)

-- what a touch of a range of a store keeps
pub keeps_cells : (old new : MemoryState) (address n : ℕ) → IsOfStore old.mem address n → IsKept old new (cells_of_range address n)
    → IsKept old new store_cells
keeps_cells old new address n is keeps = record {
  before = keeps.before;
  after = keeps.after;
  room = keeps.room;
  slots = keeps.slots;
  used = λ cell there. elim (keeps.used cell there) [ inl old ↦ inl old | inr listed ↦ inr (is.cells cell listed) ];
  enough = keeps.enough;
  counted = keeps.counted;
  grown = keeps.grown;
}

-- whatever a touch of present pages answered, it was made
pub ready_by : {X E : Type 0} (old new : MemoryState) (address n : ℕ) (result : Result X E) (at : E → ℕ) → IsMemory old → 0 < n
    → ArePresent old.mem address n
    → OnOk result (MakesPresent old new address n) → IfErr result (λ error. LacksStorePage old new address n (at error))
    → MakesReady old new address n
ready_by old new address n (Ok done) at sound some there makes lacks = makes_ready old new address n sound some there makes
ready_by old new address n (Err error) at sound some there makes lacks =
    absurd (lacks_none old new address n (at error) there lacks)

-- calls that give no slot behind one that may
pub kept_cells : (one two three : MemoryState) → IsKept one two store_cells → IsKept two three [] → IsKept one three store_cells
kept_cells one two three first second =
    IsKept-on one two three store_cells [] store_cells first second (λ cell is. is) (λ cell is. absurd (false≢true is))

pub kept_both : (one two three : MemoryState) → IsKept one two store_cells → IsKept two three store_cells → IsKept one three store_cells
kept_both one two three first second = IsKept-on one two three store_cells store_cells store_cells first second (λ cell is. is)
    (λ cell is. is)

pub kept_none : (one two three : MemoryState) → IsKept one two [] → IsKept two three [] → IsKept one three []
kept_none one two three first second = IsKept-on one two three [] [] [] first second (λ cell is. is) (λ cell is. is)
