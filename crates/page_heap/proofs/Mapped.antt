-- Mapping the two areas of a heap where there was none, and taking them out again.
use Rattle.std.proofs.Common.{◌≡◌, ℕ, true, List, [], ◌∷◌, Result, Ok, Err, Option, Some, None, OnOk, IfErr, IsSome, is_some, is_ok, refl, sym, ◌∙◌, ap, arith, inl, inr}
use Rattle.std.specs.FinMap.{get, retain_keys}
use Rattle.std.proofs.lemmas.Bool.{cases_Bool, cond-true, cond-false, false≢true}
use Rattle.std.proofs.lemmas.List.Elements.{All-from_recursion}
use Rattle.vm_base.specs.declared.faults.Fault.{Fault}
use Rattle.vm_base.specs.declared.permission.Perm.TheVariants.{ReadWrite}
use Rattle.vm_base.specs.FlatMemory.{Area, PageMap, FlatMemory, area_of}
use Rattle.vm_base.specs.FlatStep.{Taken, or_refused, at_most_128, joined, with_area, map_of, unmap_of, taken, is_beyond, areas_without}
use Rattle.vm_base.specs.FlatLaws.{AreApart}
use Rattle.vm_base.specs.MemoryState.{MemoryState, IsMemory}
use Rattle.vm_base.specs.MemoryCalls.{Maps, Changes, Refuses, map_answer, unmap_answer, faulted}
use Rattle.vm_base.proofs.FlatAreas.{taken-apart}
use Rattle.vm_base.proofs.FlatLaws.{get-unmapped}
use Rattle.vm_base.proofs.NumberedMaps.{same_numbered}
use Rattle.store_meaning.specs.Layout.{header_area, heap_area}

-- the memory of an answer
abbrev memory_in : Result FlatMemory Fault → FlatMemory → FlatMemory
memory_in (Ok memory) other = memory
memory_in (Err fault) other = other

-- an answer is one memory, or one fault
pub one_memory : (answer : Result FlatMemory Fault) (one two : FlatMemory) → answer ≡ Ok one → answer ≡ Ok two → two ≡ one
one_memory answer one two first second = sym (ap (λ a. memory_in a one) second) ∙ ap (λ a. memory_in a one) first

pub no_fault : (answer : Result FlatMemory Fault) (memory : FlatMemory) (fault : Fault) → answer ≡ Ok memory → answer ≡ Err fault → ⊥
no_fault answer memory fault first second = false≢true (sym (ap is_ok second) ∙ ap is_ok first)

-- a mapping that the flat memory answers was made
pub mapped_by : (old new : MemoryState) (result : Result (Unit {0}) Fault) (first n : ℕ) (memory : FlatMemory)
    → map_of old.mem first n ReadWrite ≡ Ok memory
    → OnOk result (Maps old new (map_answer old first n ReadWrite))
    → IfErr result (λ fault. Refuses old new (map_answer old first n ReadWrite) fault)
    → new ≡ record old { mem = memory }
mapped_by old new (Ok done) first n memory answer maps fails =
    maps.1 ∙ ap (λ (m : FlatMemory). record old { mem = m })
    (one_memory (map_answer old first n ReadWrite) memory new.mem (ap faulted answer) maps.0)
mapped_by old new (Err fault) first n memory answer maps fails =
    absurd (no_fault (map_answer old first n ReadWrite) memory fault (ap faulted answer) fails.0)

-- and so was an unmapping
pub unmapped_by : (old new : MemoryState) (result : Result (Unit {0}) Fault) (first n : ℕ) (memory : FlatMemory)
    → unmap_of old.mem first n ≡ Ok memory
    → OnOk result (Changes old new (unmap_answer old first n)) → IfErr result (λ fault. Refuses old new (unmap_answer old first n) fault)
    → (new.mem ≡ memory) × (new.most ≡ old.most)
unmapped_by old new (Ok done) first n memory answer changes fails =
    (one_memory (unmap_answer old first n) memory new.mem (ap faulted answer) changes.0, changes.1)
unmapped_by old new (Err fault) first n memory answer changes fails =
    absurd (no_fault (unmap_answer old first n) memory fault (ap faulted answer) fails.0)

-- the header's area is mapped where there is none
pub map_header : (memory : FlatMemory) → memory.areas ≡ [] → map_of memory 512 1 ReadWrite ≡ Ok (record memory { areas = header_area ∷ [] })
map_header memory none =
    ap (λ a. or_refused Taken (taken a 512 1) (at_most_128 (record memory { areas = joined (with_area header_area a) }))) none

-- and the heap's behind it
pub map_heap : (memory : FlatMemory) → memory.areas ≡ header_area ∷ []
    → map_of memory 2097152 131584 ReadWrite ≡ Ok (record memory { areas = header_area ∷ heap_area ∷ [] })
map_heap memory one =
    ap (λ a. or_refused Taken (taken a 2097152 131584) (at_most_128 (record memory { areas = joined (with_area heap_area a) }))) one
    ∙ ap (λ t. or_refused Taken t (at_most_128 (record memory { areas = joined (with_area heap_area (header_area ∷ [])) })))
    (taken-apart (header_area ∷ []) 2097152 131584
    (All-from_recursion (λ (area : Area). AreApart area.first area.pages 2097152 131584) (header_area ∷ []) (inl (omega arith), tt)))

-- the heap's area is taken out, and then the header's
pub unmap_heap : (memory : FlatMemory) → memory.areas ≡ header_area ∷ heap_area ∷ []
    → unmap_of memory 2097152 131584
    ≡ Ok (record { areas = header_area ∷ []; present = retain_keys memory.present (is_beyond 2097152 131584) })
unmap_heap memory two =
    ap (λ a. at_most_128 (record {
      areas = areas_without 2097152 131584 a;
      present =
          retain_keys memory.present (is_beyond 2097152 131584);
    })) two

pub unmap_header : (memory : FlatMemory) → memory.areas ≡ header_area ∷ []
    → unmap_of memory 512 1 ≡ Ok (record { areas = []; present = retain_keys memory.present (is_beyond 512 1) })
unmap_header memory one =
    ap (λ a. at_most_128 (record { areas = areas_without 512 1 a; present = retain_keys memory.present (is_beyond 512 1) })) one

-- where no page is present, none is after pages were taken out
pub none_left : (present : PageMap) (first n : ℕ) → ((page : ℕ) → get present page ≡ None)
    → retain_keys present (is_beyond first n) ≡ present
none_left present first n none = same_numbered _ _ (λ q. get-unmapped present first n q ∙ elim (cases_Bool (is_beyond first n q)) [
  | inl out ↦ cond-true (is_beyond first n q) _ _ out
  | inr inside ↦ cond-false (is_beyond first n q) _ _ inside ∙ sym (none q)
])

-- a memory without areas has no page
pub no_page : (state : MemoryState) → IsMemory state → state.mem.areas ≡ [] → (page : ℕ) → get state.mem.present page ≡ None
no_page state sound none page =
    by (get state.mem.present page) (λ some. sym (ap (λ a. is_some (area_of a page)) none) ∙ sound.flat.in_areas page some)
  where
    by : (found : Option (List ℕ)) → (IsSome found → is_some (area_of [] page) ≡ true) → found ≡ None
    by None in_areas = refl
    by (Some bytes) in_areas = absurd (false≢true (in_areas refl))
