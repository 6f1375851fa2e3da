-- The areas of a store with two arrays: the new one is mapped, and one of the two taken out.
use Rattle.std.proofs.Common.{◌≡◌, ℕ, ◌+◌, ◌/◌, ◌<◌, ◌≤◌, ◌⊎◌, cond, List, [], ◌∷◌, ◌++◌, Ok, None, Contains, refl, sym, ◌∙◌, ap, subst, arith, inl, inr}
use Rattle.std.specs.Prelude.{◌&&◌}
use Rattle.std.specs.FinMap.{retain_keys}
use Rattle.std.proofs.lemmas.Bool.{ne_eqb}
use Rattle.std.proofs.lemmas.List.Elements.{All-from_recursion}
use Rattle.vm_base.specs.declared.permission.Perm.TheVariants.{ReadWrite}
use Rattle.vm_base.specs.FlatMemory.{Area, FlatMemory}
use Rattle.vm_base.specs.FlatStep.{Taken, or_refused, at_most_128, joined, joined_front, is_same_perm, with_area, taken, area_without, areas_without, is_beyond, map_of, unmap_of}
use Rattle.vm_base.specs.FlatLaws.{AreApart}
use Rattle.vm_base.proofs.FlatAreas.{taken-apart}
use Rattle.store_meaning.specs.Layout.{array_a, array_b, store_area, header_area, heap_area}
use Rattle.page_hash.specs.Doubling.{both_of}
use Rattle.page_hash.proofs.AreaSteps.{without_below, without_above, without_whole}

-- the areas with one array, and with two
abbrev pub one_array : ℕ → ℕ → List Area
one_array at pages = header_area ∷ store_area at pages ∷ heap_area ∷ []

abbrev pub two_arrays : ℕ → ℕ → List Area
two_arrays first second = header_area ∷ store_area array_a first ∷ store_area array_b second ∷ heap_area ∷ []

-- an area that does not touch the next one is not joined to it
front_apart : (area next : Area) (areas : List Area) → (area.first + area.pages ≡ next.first → ⊥)
    → joined_front area (next ∷ areas) ≡ area ∷ next ∷ areas
front_apart area next areas apart =
    ap (λ b. cond (b && is_same_perm area.perm next.perm) (record area { pages = area.pages + next.pages } ∷ areas) (area ∷ next ∷ areas))
    (ne_eqb (area.first + area.pages) next.first apart)

two_joined : (first second : ℕ) → first ≤ 32768 → second ≤ 32768 → joined (two_arrays first second) ≡ two_arrays first second
two_joined first second few many =
    ap (λ l. joined_front header_area (joined_front (store_area array_a first) l))
    (front_apart (store_area array_b second) heap_area [] (λ same. omega (arith, same, many)))
    ∙ ap (joined_front header_area)
    (front_apart (store_area array_a first) (store_area array_b second) (heap_area ∷ []) (λ same. omega (arith, same, few)))
    ∙ front_apart header_area (store_area array_a first) (store_area array_b second ∷ heap_area ∷ []) (λ same. omega (arith, same))

map_up : (memory : FlatMemory) (few many : ℕ) → few ≤ 32768 → many ≤ 32768 → memory.areas ≡ one_array array_a few
    → map_of memory 1048576 many ReadWrite ≡ Ok (record memory { areas = two_arrays few many })
map_up memory few many small large areas =
    ap (λ a. or_refused Taken (taken a 1048576 many)
    (at_most_128 (record memory { areas = joined (with_area (store_area array_b many) a) }))) areas
    ∙ ap (λ t. or_refused Taken t (at_most_128 (record memory { areas = joined (two_arrays few many) })))
    (taken-apart (one_array array_a few) 1048576 many
    (All-from_recursion (λ (area : Area). AreApart area.first area.pages 1048576 many) (one_array array_a few)
    (inl (omega arith), (inl (omega (arith, small)), (inr (omega (arith, large)), tt)))))
    ∙ ap (λ a. at_most_128 (record memory { areas = a })) (two_joined few many small large)

map_down : (memory : FlatMemory) (few many : ℕ) → few ≤ 32768 → many ≤ 32768 → memory.areas ≡ one_array array_b few
    → map_of memory 524288 many ReadWrite ≡ Ok (record memory { areas = two_arrays many few })
map_down memory few many small large areas =
    ap (λ a. or_refused Taken (taken a 524288 many)
    (at_most_128 (record memory { areas = joined (with_area (store_area array_a many) a) }))) areas
    ∙ ap (λ t. or_refused Taken t (at_most_128 (record memory { areas = joined (two_arrays many few) })))
    (taken-apart (one_array array_b few) 524288 many
    (All-from_recursion (λ (area : Area). AreApart area.first area.pages 524288 many) (one_array array_b few)
    (inl (omega arith), (inr (omega (arith, large)), (inr (omega (arith, large)), tt)))))
    ∙ ap (λ a. at_most_128 (record memory { areas = a })) (two_joined many few large small)

-- the two arrays lie in the two regions
abbrev pub AreRegions : ℕ → ℕ → Type 0
AreRegions old new = ((old ≡ array_a) × (new ≡ array_b)) ⊎ ((old ≡ array_b) × (new ≡ array_a))

-- the new array is mapped beside the old one
pub map_both : (memory : FlatMemory) (old new few many : ℕ) → AreRegions old new → few ≤ 32768 → many ≤ 32768
    → memory.areas ≡ one_array old few → map_of memory (new / 4096) many ReadWrite ≡ Ok (record memory { areas = both_of old new few many })
map_both memory old new few many (inl up) small large areas =
    subst (λ o. memory.areas ≡ one_array o few → map_of memory (new / 4096) many ReadWrite
    ≡ Ok (record memory { areas = both_of o new few many }))
    (sym up.0)
    (λ first. subst (λ n. map_of memory (n / 4096) many ReadWrite ≡ Ok (record memory { areas = both_of array_a n few many })) (sym up.1)
    (map_up memory few many small large first)) areas
map_both memory old new few many (inr down) small large areas =
    subst (λ o. memory.areas ≡ one_array o few → map_of memory (new / 4096) many ReadWrite
    ≡ Ok (record memory { areas = both_of o new few many }))
    (sym down.0)
    (λ second. subst (λ n. map_of memory (n / 4096) many ReadWrite ≡ Ok (record memory { areas = both_of array_b n few many })) (sym down.1)
    (map_down memory few many small large second)) areas

-- what is left of four areas
four : (first n : ℕ) (one two three last : Area) (l1 l2 l3 l4 : List Area) → area_without first n one ≡ l1 → area_without first n two ≡ l2
    → area_without first n three ≡ l3 → area_without first n last ≡ l4
    → areas_without first n (one ∷ two ∷ three ∷ last ∷ []) ≡ l1 ++ (l2 ++ (l3 ++ (l4 ++ [])))
four first n one two three last l1 l2 l3 l4 a b c d =
    ap (λ l. l ++ (area_without first n two ++ (area_without first n three ++ (area_without first n last ++ [])))) a
    ∙ ap (λ l. l1 ++ (l ++ (area_without first n three ++ (area_without first n last ++ [])))) b
    ∙ ap (λ l. l1 ++ (l2 ++ (l ++ (area_without first n last ++ [])))) c
    ∙ ap (λ l. l1 ++ (l2 ++ (l3 ++ (l ++ [])))) d

out_first : (first second : ℕ) → 0 < first → first ≤ 32768
    → areas_without 524288 first (two_arrays first second) ≡ one_array array_b second
out_first first second some few =
    four 524288 first header_area (store_area array_a first) (store_area array_b second) heap_area (header_area ∷ []) []
    (store_area array_b second ∷ []) (heap_area ∷ []) (without_below 524288 first header_area (omega arith))
    (without_whole 524288 first ReadWrite some) (without_above 524288 first (store_area array_b second) (omega (arith, few)))
    (without_above 524288 first heap_area (omega (arith, few)))

out_second : (first second : ℕ) → 0 < second → first ≤ 32768 → second ≤ 32768
    → areas_without 1048576 second (two_arrays first second) ≡ one_array array_a first
out_second first second some small few =
    four 1048576 second header_area (store_area array_a first) (store_area array_b second) heap_area (header_area ∷ [])
    (store_area array_a first ∷ []) [] (heap_area ∷ []) (without_below 1048576 second header_area (omega arith))
    (without_below 1048576 second (store_area array_a first) (omega (arith, small)))
    (without_whole 1048576 second ReadWrite some) (without_above 1048576 second heap_area (omega (arith, few)))

-- the new array is taken out again, or the old one
pub out_new : (old new few many : ℕ) → AreRegions old new → few ≤ 32768 → many ≤ 32768 → 0 < many
    → areas_without (new / 4096) many (both_of old new few many) ≡ one_array old few
out_new old new few many (inl up) small large some =
    subst (λ o. areas_without (new / 4096) many (both_of o new few many) ≡ one_array o few) (sym up.0)
    (subst (λ n. areas_without (n / 4096) many (both_of array_a n few many) ≡ one_array array_a few) (sym up.1)
    (out_second few many some small large))
out_new old new few many (inr down) small large some =
    subst (λ o. areas_without (new / 4096) many (both_of o new few many) ≡ one_array o few) (sym down.0)
    (subst (λ n. areas_without (n / 4096) many (both_of array_b n few many) ≡ one_array array_b few) (sym down.1)
    (out_first many few some large))

pub out_old : (old new few many : ℕ) → AreRegions old new → few ≤ 32768 → many ≤ 32768 → 0 < few
    → areas_without (old / 4096) few (both_of old new few many) ≡ one_array new many
out_old old new few many (inl up) small large some =
    subst (λ o. areas_without (o / 4096) few (both_of o new few many) ≡ one_array new many) (sym up.0)
    (subst (λ n. areas_without 524288 few (both_of array_a n few many) ≡ one_array n many) (sym up.1)
    (out_first few many some small))
out_old old new few many (inr down) small large some =
    subst (λ o. areas_without (o / 4096) few (both_of o new few many) ≡ one_array new many) (sym down.0)
    (subst (λ n. areas_without 1048576 few (both_of array_b n few many) ≡ one_array n many) (sym down.1)
    (out_second many few some large small))

-- so an unmapping of either is answered
pub unmap_one : (memory : FlatMemory) (first n at pages : ℕ) → areas_without first n memory.areas ≡ one_array at pages
    → unmap_of memory first n ≡ Ok (record { areas = one_array at pages; present = retain_keys memory.present (is_beyond first n) })
unmap_one memory first n at pages left =
    ap (λ a. at_most_128 (record { areas = a; present = retain_keys memory.present (is_beyond first n) })) left

-- no area has a page of the new array before it is mapped
pub new_free : (old new few many : ℕ) → AreRegions old new → few ≤ 32768 → many ≤ 32768 → taken (one_array old few) (new / 4096) many ≡ None
new_free old new few many (inl up) small large =
    subst (λ o. taken (one_array o few) (new / 4096) many ≡ None) (sym up.0)
    (subst (λ n. taken (one_array array_a few) (n / 4096) many ≡ None) (sym up.1)
    (taken-apart (one_array array_a few) 1048576 many
    (All-from_recursion (λ (area : Area). AreApart area.first area.pages 1048576 many) (one_array array_a few)
    (inl (omega arith), (inl (omega (arith, small)), (inr (omega (arith, large)), tt))))))
new_free old new few many (inr down) small large =
    subst (λ o. taken (one_array o few) (new / 4096) many ≡ None) (sym down.0)
    (subst (λ n. taken (one_array array_b few) (n / 4096) many ≡ None) (sym down.1)
    (taken-apart (one_array array_b few) 524288 many
    (All-from_recursion (λ (area : Area). AreApart area.first area.pages 524288 many) (one_array array_b few)
    (inl (omega arith), (inr (omega (arith, large)), (inr (omega (arith, large)), tt))))))

-- the new array's area is among them
pub new_listed : (old new few many : ℕ) → AreRegions old new → Contains (both_of old new few many) (store_area new many)
new_listed old new few many (inl up) =
    subst (λ o. Contains (both_of o new few many) (store_area new many)) (sym up.0)
    (subst (λ n. Contains (both_of array_a n few many) (store_area n many)) (sym up.1) (2, omega arith, refl))
new_listed old new few many (inr down) =
    subst (λ o. Contains (both_of o new few many) (store_area new many)) (sym down.0)
    (subst (λ n. Contains (both_of array_b n few many) (store_area n many)) (sym down.1) (1, omega arith, refl))

-- and so are the old one's, and the heap's
pub old_listed : (old new few many : ℕ) → AreRegions old new → Contains (both_of old new few many) (store_area old few)
old_listed old new few many (inl up) =
    subst (λ o. Contains (both_of o new few many) (store_area o few)) (sym up.0)
    (subst (λ n. Contains (both_of array_a n few many) (store_area array_a few)) (sym up.1) (1, omega arith, refl))
old_listed old new few many (inr down) =
    subst (λ o. Contains (both_of o new few many) (store_area o few)) (sym down.0)
    (subst (λ n. Contains (both_of array_b n few many) (store_area array_b few)) (sym down.1) (2, omega arith, refl))

pub others_listed : (old new few many : ℕ) → AreRegions old new
    → Contains (both_of old new few many) header_area × Contains (both_of old new few many) heap_area
others_listed old new few many (inl up) =
    subst (λ o. Contains (both_of o new few many) header_area × Contains (both_of o new few many) heap_area) (sym up.0)
    (subst (λ n. Contains (both_of array_a n few many) header_area × Contains (both_of array_a n few many) heap_area) (sym up.1)
    ((0, omega arith, refl), (3, omega arith, refl)))
others_listed old new few many (inr down) =
    subst (λ o. Contains (both_of o new few many) header_area × Contains (both_of o new few many) heap_area) (sym down.0)
    (subst (λ n. Contains (both_of array_b n few many) header_area × Contains (both_of array_b n few many) heap_area) (sym down.1)
    ((0, omega arith, refl), (3, omega arith, refl)))
