-- A block that is linked anew: its touch is not refused, and its first word alone changes.
use Rattle.std.proofs.Common.{◌≡◌, ℕ, ◌+◌, ◌-◌, ◌<◌, ◌≤◌, List, [], length, Result, OnOk, IfErr, is_some, refl, sym, ◌∙◌, ap, subst, arith, inl, inr, Contains, eqb}
use Rattle.std.specs.FinMap.{get}
use Rattle.std.proofs.lemmas.Bool.{false≢true, cases_eq, cond-true, cond-false, eq-eqb, ne_eqb}
use Rattle.byteorder.specs.Endian.{big_bytes}
use Rattle.vm_base.specs.declared.faults.Fault.{Fault}
use Rattle.vm_base.specs.Places.{page_of, page_count, cell_of, cells_of_range}
use Rattle.vm_base.specs.FlatMemory.{FlatMemory, IsFlat}
use Rattle.vm_base.specs.FlatLaws.{AreFullPages, HasNumbersOf}
use Rattle.vm_base.specs.MemoryState.{MemoryState, IsMemory, IsKept, IsIn}
use Rattle.vm_base.specs.MemoryCalls.{IsReady, Touches, TouchFails, after_store}
use Rattle.vm_base.proofs.FlatAreas.{cells-of_pages}
use Rattle.vm_base.proofs.FlatLaws.{is_some-with_bytes, full_from_flat}
use Rattle.vm_base.proofs.IsKeptOn.{IsKept-on}
use Rattle.store_meaning.specs.Layout.{heap_area, heap_at, heap_end, store_cells}
use Rattle.store_meaning.specs.HeapLayout.{ArePresent}
use Rattle.page_hash.specs.Relinking.{MayRelink, KeepsPlace, with_word}
use Rattle.page_hash.proofs.Cleared.{may_kept}
use Rattle.page_hash.proofs.PresentTouch.{AreThere, TouchesPresent, region_answer, region_listed, touch_made}

-- a range that is present has each of its pages
pub there_from : (memory : FlatMemory) (address n : ℕ) → 0 < n → ArePresent memory address n → AreThere memory address n
there_from memory address n some present page inside =
    let count : page_count address n ≡ page_of (address + n - 1) + 1 - page_of address =
    cond-false (eqb n 0) 0 _ (ne_eqb n 0 (λ none. omega (arith, none, some))) in
    present page (omega (arith, inside.0)) (omega (arith, inside.0, inside.1, count, some))

-- and each of them is full
pub full_present : (memory : FlatMemory) (address n : ℕ) → IsFlat memory → 0 < n → ArePresent memory address n
    → AreFullPages memory.present address n
full_present memory address n flat some present page inside =
    full_from_flat memory page flat (there_from memory address n some present page inside)

-- the cells of a range of the heap are cells of a store
pub heap_cells_listed : (address n : ℕ) → heap_at ≤ address → address + n ≤ heap_end → HasNumbersOf store_cells (cells_of_range address n)
heap_cells_listed address n low high cell listed =
    let page = (cells-of_pages address n cell).0 listed in
    let at : cell_of page.0 ≡ cell = page.1.1 in
    let inside = page.1.0 in
    region_listed cell (inr (inr (inr (omega (arith, at, inside.0, low), cell_high page.0 at inside.0 inside.1))))
  where
    cell_high : (page : ℕ) → cell_of page ≡ cell → page_of address ≤ page → page < page_of address + page_count address n → cell < 4353
    cell_high page at above below = elim (cases_eq n 0) [
      | inl none ↦
          let nothing : page_count address n ≡ 0 =
          cond-true (eqb n 0) 0 _ (eq-eqb n 0 none) in
          omega (arith, nothing, above, below)
      | inr some ↦
          let count : page_count address n ≡ page_of (address + n - 1) + 1 - page_of address =
          cond-false (eqb n 0) 0 _ (ne_eqb n 0 some) in
          omega (arith, count, above, below, high, at, some)
    ]

-- so a touch of a block's first word is made
pub block_touch : (old new : MemoryState) (result : Result (Unit {0}) Fault) (at : ℕ) → MayRelink old → heap_at ≤ at → at + 8 ≤ heap_end
    → ArePresent old.mem at 8 → OnOk result (Touches old new at 8) → IfErr result (λ fault. TouchFails old new at 8 fault)
    → TouchesPresent old new at 8
block_touch old new result at may low high present touches fails =
    touch_made old new result at 8 may.sound
    (region_answer old heap_area at 8 may.sound may.may may.heap (omega (arith, low), omega (arith, high)) refl
    (heap_cells_listed at 8 low high))
    (there_from old.mem at 8 (omega arith) present) touches fails

-- the word is stored, and all else is as it was
pub relinks_block : (old touched new : MemoryState) (at word : ℕ) → TouchesPresent old touched at 8
    → IsKept old touched (cells_of_range at 8) → IsKept touched new [] → heap_at ≤ at → at + 8 ≤ heap_end
    → new ≡ after_store touched at (big_bytes 8 word) → (new.mem ≡ with_word old.mem at word) × KeepsPlace old new
relinks_block old touched new at word touch kept stored_kept low high stored = (
  ap (λ (s : MemoryState). s.mem) stored ∙ ap (λ m. with_word m at word) touch.mem,
  record {
    areas = ap (λ (s : MemoryState). s.mem.areas) stored ∙ ap (λ (m : FlatMemory). m.areas) touch.mem;
    pages = λ page. ap (λ (s : MemoryState). is_some (get s.mem.present page)) stored
        ∙ is_some-with_bytes touched.mem.present at (big_bytes 8 word)
        (λ q inside. stored_kept.before.present q (touch.ready q inside)) page
        ∙ ap (λ (m : FlatMemory). is_some (get m.present page)) touch.mem;
    most = ap (λ (s : MemoryState). s.most) stored ∙ touch.most;
    ready = λ page there. subst (λ (s : MemoryState). IsIn page s.ready) (sym stored) (touch.keeps page there);
    kept = IsKept-on old touched new (cells_of_range at 8) [] store_cells kept stored_kept (heap_cells_listed at 8 low high)
        (λ cell never. absurd (false≢true never));
  },
)

-- one such change behind another
pub keeps_on : (one two three : MemoryState) → KeepsPlace one two → KeepsPlace two three → KeepsPlace one three
keeps_on one two three a b = record {
  areas = b.areas ∙ a.areas;
  pages = λ page. b.pages page ∙ a.pages page;
  most = b.most ∙ a.most;
  ready = λ page there. b.ready page (a.ready page there);
  kept = IsKept-on one two three store_cells store_cells store_cells a.kept b.kept (λ cell is. is) (λ cell is. is);
}

-- and a memory in which blocks may be touched stays one
pub may_on : (old new : MemoryState) → MayRelink old → KeepsPlace old new → MayRelink new
may_on old new may keeps = record {
  sound = keeps.kept.after;
  may = may_kept old new keeps.kept may.may;
  heap = subst (λ a. Contains a heap_area) (sym keeps.areas) may.heap;
}

pub kept_none : (state : MemoryState) (cells : List ℕ) → IsMemory state → IsKept state state cells
kept_none state cells sound = record {
  before = sound;
  after = sound;
  room = refl;
  slots = refl;
  used = λ cell there. inl there;
  enough = refl;
  counted = omega arith;
  grown = omega arith;
}

-- where nothing is done all is kept
pub keeps_none : (state : MemoryState) → IsMemory state → KeepsPlace state state
keeps_none state sound = record {
  areas = refl;
  pages = λ page. refl;
  most = refl;
  ready = λ page there. there;
  kept = kept_none state store_cells sound;
}

-- bytes stored in pages that were touched keep all else
pub store_keeps : (old new : MemoryState) (at : ℕ) (bytes : List ℕ) → IsReady old at (length bytes) → IsKept old new []
    → new ≡ after_store old at bytes → KeepsPlace old new
store_keeps old new at bytes ready kept stored = record {
  areas = ap (λ (s : MemoryState). s.mem.areas) stored;
  pages = λ page. ap (λ (s : MemoryState). is_some (get s.mem.present page)) stored
      ∙ is_some-with_bytes old.mem.present at bytes (λ q inside. kept.before.present q (ready q inside)) page;
  most = ap (λ (s : MemoryState). s.most) stored;
  ready = λ page there. subst (λ (s : MemoryState). IsIn page s.ready) (sym stored) there;
  kept = IsKept-on old old new [] [] store_cells (kept_none old [] kept.before) kept (λ cell never. absurd (false≢true never))
      (λ cell never. absurd (false≢true never));
}

-- what may be stored to still may
pub ready_on : (old new : MemoryState) (base total : ℕ) → KeepsPlace old new → IsReady old base total → IsReady new base total
ready_on old new base total keeps ready page inside = keeps.ready page (ready page inside)
