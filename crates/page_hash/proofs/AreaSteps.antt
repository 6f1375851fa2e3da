-- The areas of a store where one is taken out.
use Rattle.std.proofs.Common.{◌≡◌, ℕ, ◌+◌, ◌<◌, ◌≤◌, leb, ltb, [], ◌∷◌, ◌++◌, Ok, ◌∙◌, ap, ap₂, arith, inl, inr}
use Rattle.std.specs.FinMap.{retain_keys}
use Rattle.std.proofs.lemmas.Bool.{cases_Bool, cond-true, cond-false, le-leb, lt-leb, le-ltb}
use Rattle.vm_base.specs.declared.permission.Perm.{Perm}
use Rattle.vm_base.specs.declared.permission.Perm.TheVariants.{ReadWrite}
use Rattle.vm_base.specs.FlatMemory.{Area, FlatMemory}
use Rattle.vm_base.specs.FlatStep.{at_most_128, area_without, areas_without, is_beyond, unmap_of}
use Rattle.store_meaning.specs.Layout.{header_area, heap_area}

-- an area below the pages that are taken out stays
pub without_below : (first n : ℕ) (area : Area) → area.first + area.pages ≤ first → area_without first n area ≡ area ∷ []
without_below first n area below =
    cond-true (leb (area.first + area.pages) first) _ _ (le-leb (area.first + area.pages) first below)

-- and so does one above them
pub without_above : (first n : ℕ) (area : Area) → first + n ≤ area.first → area_without first n area ≡ area ∷ []
without_above first n area above = elim (cases_Bool (leb (area.first + area.pages) first)) [
  | inl below ↦ cond-true (leb (area.first + area.pages) first) _ _ below
  | inr behind ↦ cond-false (leb (area.first + area.pages) first) _ _ behind
      ∙ cond-true (leb (first + n) area.first) _ _ (le-leb (first + n) area.first above)
]

-- nothing is left of an area of just these pages
pub without_whole : (first n : ℕ) (perm : Perm) → 0 < n
    → area_without first n (record { first = first; pages = n; perm = perm }) ≡ []
without_whole first n perm some =
    cond-false (leb (first + n) first) _ _ (lt-leb (first + n) first (omega (arith, some)))
    ∙ cond-false (leb (first + n) first) _ _ (lt-leb (first + n) first (omega (arith, some)))
    ∙ ap₂ (λ a b. a ++ b) (cond-false (ltb first first) _ _ (le-ltb first first (omega arith)))
    (cond-false (ltb (first + n) (first + n)) _ _ (le-ltb (first + n) (first + n) (omega arith)))

-- the heap is taken out behind an array
pub unmap_heap_behind : (memory : FlatMemory) (array : Area) → memory.areas ≡ header_area ∷ array ∷ heap_area ∷ []
    → array.first + array.pages ≤ 2097152
    → unmap_of memory 2097152 131584
    ≡ Ok (record { areas = header_area ∷ array ∷ []; present = retain_keys memory.present (is_beyond 2097152 131584) })
unmap_heap_behind memory array three below =
    ap (λ a. at_most_128 (record { areas = a; present = retain_keys memory.present (is_beyond 2097152 131584) }))
    (ap (areas_without 2097152 131584) three ∙ ap (λ l. header_area ∷ (l ++ [])) (without_below 2097152 131584 array below))

-- and then the array
pub unmap_array_last : (memory : FlatMemory) (first n : ℕ) → memory.areas
    ≡ header_area ∷ record { first = first; pages = n; perm = ReadWrite } ∷ [] → 513 ≤ first → 0 < n
    → unmap_of memory first n ≡ Ok (record { areas = header_area ∷ []; present = retain_keys memory.present (is_beyond first n) })
unmap_array_last memory first n two low some =
    ap (λ a. at_most_128 (record { areas = a; present = retain_keys memory.present (is_beyond first n) }))
    (ap (areas_without first n) two
    ∙ ap₂ (λ a b. a ++ (b ++ [])) (without_below first n header_area low) (without_whole first n ReadWrite some))
