-- The touch of the header of a heap that begins, and what stands behind it.
use Rattle.std.proofs.Common.{◌≡◌, ℕ, ◌+◌, ◌≤◌, ◌<◌, ◌⊎◌, max, List, [], ◌∷◌, length, map, replicate, Ok, Option, Some, None, IsSome, is_some, false, refl, sym, ◌∙◌, ap, subst, arith, inl, inr, Contains}
use Rattle.std.specs.FinMap.{get, insert, entries, empty, keys, len, len-entries, len-empty, entries-insert, get-empty}
use Rattle.std.specs.FinSet as set
use Rattle.std.specs.Ordering.{nat_cmp}
use Rattle.std.specs.Cmp.{nat_cmp_total}
use Rattle.std.specs.Prelude.{unwrap_or, eqb}
use Rattle.std.specs.FinMap.Entries.{put}
use Rattle.std.proofs.lemmas.Bool.{or_cases, or_left, cases_eq, false≢true}
use Rattle.std.proofs.lemmas.List.{nil_from_length}
use Rattle.std.proofs.lemmas.List.Elements.{All-nil}
use Rattle.std.proofs.lemmas.List.Sorted.{IsPermutation-refl}
use Rattle.byteorder.specs.Endian.{big_bytes, big_number}
use Rattle.vm_base.specs.declared.faults.Fault.{Fault}
use Rattle.vm_base.specs.declared.faults.Fault.TheVariants.{NoArea, NoWrite, NoFrame, Overlap, AreasFull, CellsFull}
use Rattle.vm_base.specs.Places.{cell_of, directory_frames, distinct}
use Rattle.vm_base.specs.FlatMemory.{Area, PageMap, FlatMemory, AreInOrder, zero_page, bytes_at}
use Rattle.vm_base.specs.FlatStep.{with_pages, with_bytes}
use Rattle.vm_base.specs.FlatLaws.{AreFullPages}
use Rattle.vm_base.specs.MemoryState.{Numbers, MemoryState, IsMemory, IsKept, IsIn, IsListed, own_of}
use Rattle.vm_base.specs.MemoryCalls.{IsReady, Touches, TouchFails, touched, touch_answer, is_out_of_slots, faulted, after_store}
use Rattle.vm_base.proofs.FlatAreas.{touch_of-in_area}
use Rattle.vm_base.proofs.FlatLaws.{bytes_at-with_pages, bytes_at-none, get-with_pages_beyond, is_some-with_bytes, bytes_at-with_bytes_apart, full_from_ready}
use Rattle.vm_base.proofs.FlatPages.{with_page_absent}
use Rattle.vm_base.proofs.FlatSlots.{slots-among, touch_answer-areas}
use Rattle.vm_base.proofs.NumberedMaps.{same_numbered}
use Rattle.store_meaning.specs.Layout.{header_at, heap_at, header_area, heap_area, top_field, list_field, word_at, classes, store_cells}
use Rattle.store_meaning.specs.HeapLayout.{IsHeap, ArePresent, opening_heap}
use Rattle.store_meaning.specs.Standing.{MayBegin, BeginFails}
use Rattle.store_meaning.proofs.Lists.{class_within}
use Rattle.store_meaning.proofs.Words.{word_at-stored, word_at-apart}
use Rattle.page_heap.specs.HeapCalls.{Begins, with_areas}
use Rattle.page_heap.proofs.Mapped.{no_page, one_memory, no_fault}
use Rattle.page_heap.proofs.Plans.{ready_present}

-- the two areas
abbrev pub both_areas : List Area
both_areas = header_area ∷ heap_area ∷ []

-- the memory behind the two mappings
abbrev pub mapped_state : MemoryState → MemoryState
mapped_state state = with_areas state both_areas

in_order : AreInOrder both_areas
in_order = (omega arith, omega arith, λ same. absurd (omega (arith, same)), omega arith)

-- no cell uses a slot where none is in use
none_used : (state : MemoryState) → set.len state.used ≡ 0 → (cell : ℕ) → IsIn cell state.used → ⊥
none_used state none cell there =
    false≢true (sym (set.contains-empty nat_cmp cell) ∙ ap (λ (s : Numbers). set.contains s cell) (sym (set.empty_of_len state.used none))
    ∙ there)

-- the header is touched, for all that areas and slots say
pub header_answer : (old : MemoryState) → MayBegin old → touch_answer (mapped_state old) header_at 4096
    ≡ Ok (touched (mapped_state old).mem header_at 4096)
header_answer old may =
    let state = mapped_state old in
    let slots : is_out_of_slots state header_at 4096 ≡ false = slots-among state header_at 4096 (1 ∷ [])
    (λ cell there. absurd (none_used old may.unused cell there)) (λ cell listed. listed) (omega (arith, may.slots)) in
    touch_answer-areas state header_at 4096 slots
    ∙ ap faulted (touch_of-in_area state.mem header_area header_at 4096 in_order (0, omega arith, refl) (omega arith, omega arith) refl)

-- a map of pages without any is the empty one
no_pages : (present : PageMap) → ((page : ℕ) → get present page ≡ None) → present ≡ empty
no_pages present none = same_numbered _ _ (λ page. none page ∙ sym (get-empty nat_cmp page))

-- with the header's page alone it has one entry
header_entry : (present : PageMap) → ((page : ℕ) → get present page ≡ None) → entries (with_pages present 512 1) ≡ (512, zero_page) ∷ []
header_entry present none =
    let absent : is_some (get present 512) ≡ false = ap is_some (none 512) in
    let nothing =
    nil_from_length (entries (empty {X = List ℕ} {R = nat_cmp})) (sym (len-entries (empty {X = List ℕ} {R = nat_cmp}))
    ∙ len-empty nat_cmp (List ℕ)) in
    ap entries (with_page_absent present 512 absent ∙ ap (λ (p : PageMap). insert p 512 zero_page) (no_pages present none))
    ∙ entries-insert nat_cmp_total (empty {X = List ℕ} {R = nat_cmp}) 512 zero_page
    ∙ ap (put nat_cmp 512 zero_page) nothing

-- so it takes five frames: three tables of the directory, a leaf table and the page
pub header_frames : (memory : FlatMemory) → ((page : ℕ) → get memory.present page ≡ None) → own_of (touched memory header_at 4096) ≡ 5
header_frames memory none =
    let es = header_entry memory.present none in
    let present = with_pages memory.present 512 1 in
    let directory : directory_frames (map cell_of (keys present)) ≡ 3 =
    ap (λ (e : List (ℕ × List ℕ)). directory_frames (map cell_of (map (λ p. p.0) e))) es in
    let leaves : length (distinct (map cell_of (keys present))) ≡ 1 =
    ap (λ (e : List (ℕ × List ℕ)). length (distinct (map cell_of (map (λ p. p.0) e)))) es in
    let pages : len present ≡ 1 = len-entries present ∙ ap length es in
    omega (arith, directory, leaves, pages)

-- a refused touch of the header lacks a frame, and leaves the memory
pub header_fails : (old after new : MemoryState) (fault : Fault) → MayBegin old → TouchFails (mapped_state old) after header_at 4096 fault
    → new.mem ≡ old.mem → after.refused ≤ new.refused → BeginFails old new fault
header_fails old after new (NoFrame at page) may fails same counted =
    (same, omega (arith, fails.rose, fails.told), omega (arith, fails.told, counted), omega (arith, fails.range.0, fails.range.1))
header_fails old after new (NoArea page) may fails same counted = no_fault _ _ _ (header_answer old may) fails.0
header_fails old after new (NoWrite page) may fails same counted = no_fault _ _ _ (header_answer old may) fails.0
header_fails old after new (Overlap page) may fails same counted = fails
header_fails old after new AreasFull may fails same counted = fails
header_fails old after new CellsFull may fails same counted = no_fault _ _ _ (header_answer old may) fails.0

-- then the memory is the mapped one, and the frames that it asked for were counted
pub header_left : (old after : MemoryState) (fault : Fault) → MayBegin old → TouchFails (mapped_state old) after header_at 4096 fault
    → (after.mem ≡ (mapped_state old).mem) × (after.most ≡ max old.most (own_of (touched (mapped_state old).mem header_at 4096)))
header_left old after (NoFrame at page) may fails = (fails.mem, fails.most)
header_left old after (NoArea page) may fails = absurd (no_fault _ _ _ (header_answer old may) fails.0)
header_left old after (NoWrite page) may fails = absurd (no_fault _ _ _ (header_answer old may) fails.0)
header_left old after (Overlap page) may fails = absurd fails
header_left old after AreasFull may fails = absurd fails
header_left old after CellsFull may fails = absurd (no_fault _ _ _ (header_answer old may) fails.0)

-- bytes of a memory with the header's page alone, of zeros
zeros_there : (present : PageMap) (address n : ℕ) → ((page : ℕ) → get present page ≡ None) → bytes_at (with_pages present 512 1) address n
    ≡ replicate n 0
zeros_there present address n none =
    bytes_at-with_pages present 512 1 address n ∙ bytes_at-none present address n (λ page inside. none page)

-- the header was touched and the top stored: the heap begins
pub header_begins : (old after new : MemoryState) → MayBegin old → IsMemory old → Touches (mapped_state old) after header_at 4096
    → new ≡ after_store after top_field (big_bytes 8 heap_at) → IsMemory after → IsKept old new (1 ∷ []) → Begins old new
header_begins old after new may sound touch stored after_sound kept =
    let none = no_page old sound may.empty in
    let memory : after.mem ≡ touched (mapped_state old).mem header_at 4096 = one_memory _ _ _ (header_answer old may) touch.mem in
    let mem : new.mem ≡ record {
      areas = both_areas;
      present =
          with_bytes (with_pages old.mem.present 512 1) top_field (big_bytes 8 heap_at);
    } =
    ap (λ s. s.mem) stored ∙ ap (λ (m : FlatMemory). record m { present = with_bytes m.present top_field (big_bytes 8 heap_at) }) memory in
    let begun : FlatMemory = record { areas = both_areas; present = with_pages old.mem.present 512 1 } in
    let now : FlatMemory =
    record { areas = both_areas; present = with_bytes (with_pages old.mem.present 512 1) top_field (big_bytes 8 heap_at) } in
    let ready_top : IsReady after top_field 8 =
    λ page inside. touch.ready page (omega (arith, inside.0, inside.1), omega (arith, inside.0, inside.1)) in
    let full : AreFullPages begun.present top_field 8 =
    subst (λ (m : FlatMemory). AreFullPages m.present top_field 8) memory (full_from_ready after top_field 8 after_sound ready_top) in
    let ready : IsReady new header_at 4096 = λ page inside. subst (λ s. IsIn page s.ready) (sym stored) (touch.ready page inside) in
    let zero_word : (class : ℕ) → Contains classes class → word_at now (list_field class) ≡ 0 = λ class in_classes.
    word_at-apart begun top_field heap_at (list_field class) (inl (omega (arith, (class_within class in_classes).0)))
    ∙ ap (big_number 8) (zeros_there old.mem.present (list_field class) 8 none) in
    let heap : IsHeap now opening_heap = record {
      areas = ((0, omega arith, refl), (1, omega arith, refl));
      top = word_at-stored begun top_field heap_at full (omega arith);
      lists = zero_word;
      order = [];
      same = IsPermutation-refl [];
      fill = refl;
      classed = All-nil _;
      halves = All-nil _;
      header = subst (λ m. ArePresent m header_at 4096) mem (ready_present new header_at 4096 (omega arith) kept.after ready);
      within = omega arith;
    } in
    record {
      areas = ap (λ m. m.areas) mem;
      heap = subst (λ m. IsHeap m opening_heap) (sym mem) heap;
      rest = ap (λ (m : FlatMemory). bytes_at m.present (header_at + 8) 4088) mem
          ∙ bytes_at-with_bytes_apart begun.present top_field (big_bytes 8 heap_at) (header_at + 8) 4088 (inl (omega arith))
          ∙ zeros_there old.mem.present (header_at + 8) 4088 none;
      pages = λ page there. elim (cases_eq page 512) [
        | inl here ↦ here
        | inr apart ↦
            absurd (false≢true
            (sym (is_some-with_bytes begun.present top_field (big_bytes 8 heap_at)
            (λ q inside. full_is_some (get begun.present q) (full q inside)) page
            ∙ ap is_some (get-with_pages_beyond old.mem.present 512 1 page (beyond page apart)) ∙ ap is_some (none page))
            ∙ ap (λ (m : FlatMemory). is_some (get m.present page)) (sym mem) ∙ there))
      ];
      ready = ready;
      may = record {
        slots = omega (arith, kept.slots, may.slots);
        used = λ cell there. elim (kept.used cell there) [
          | inl before ↦ absurd (none_used old may.unused cell before)
          | inr first ↦ first_cell cell first
        ];
        room = omega (arith, kept.room, may.room);
      };
    }
  where
    beyond : (page : ℕ) → (page ≡ 512 → ⊥) → (page < 512) ⊎ (512 + 1 ≤ page)
    beyond page apart = grind arith

    full_is_some : (page : Option (List ℕ)) → length (unwrap_or page []) ≡ 4096 → IsSome page
    full_is_some None full = absurd (omega (arith, full))
    full_is_some (Some bytes) full = refl

    first_cell : (cell : ℕ) → IsListed cell (1 ∷ []) → IsListed cell store_cells
    first_cell cell first = elim (or_cases (eqb 1 cell) false first) [
      | inl here ↦ or_left (eqb 1 cell) _ here
      | inr never ↦ absurd (false≢true never)
    ]
