-- What the calls make of the pieces is what the definitions say.
use Rattle.std.proofs.Common.{◌≡◌, ℕ, ◌+◌, ◌<◌, ◌≤◌, max, List, [], ◌∷◌, ◌++◌, Some, None, refl, sym, ◌∙◌, ap, arith, inl, inr, append_assoc, append-nil, false}
use Rattle.std.specs.Prelude.{is_some}
use Rattle.std.proofs.lemmas.Bool.{cases_lt, cases_Bool, both_ways}
use Rattle.vm_base.specs.declared.permission.Perm.{Perm}
use Rattle.vm_base.specs.FlatMemory.{Area, AreInOrder, holds, area_of}
use Rattle.vm_base.specs.FlatStep.{Taken, OutsideAreas, or_refused, taken, outside, joined, with_area, areas_without}
use Rattle.area_list.specs.Calls.{area_at, if_few, areas_mapped, areas_unmapped, areas_protected}
use Rattle.area_list.specs.Pieces.{pieces, areas_below, areas_from}
use Rattle.area_list.proofs.Order.{IsFrom, IsFrom-in_order, joined_same}
use Rattle.area_list.proofs.Permissions.{holds_inside}
use Rattle.area_list.proofs.Found.{fails_below, area_held, area_passed}
use Rattle.area_list.proofs.Whole.{without_below, without_above, areas_without_parts, with_area_parts, without_in_order}

-- an area among the others, as one of the pieces
protected_pieces : (areas : List Area) (first n : ℕ) (perm : Perm) → AreInOrder areas
    → pieces first (first + n) (Some (area_at first n perm)) areas ≡ with_area (area_at first n perm) (areas_without first n areas)
protected_pieces areas first n perm order =
    append_assoc (areas_below first areas) (area_at first n perm ∷ []) (areas_from (first + n) areas)
    ∙ sym (with_area_parts (area_at first n perm) 0 areas (omega arith) (IsFrom-in_order areas order))

-- where no page is taken, none is taken out
untouched : (first n low : ℕ) (areas : List Area) → 0 < n → IsFrom low areas → ((q : ℕ) → first ≤ q → q < first + n → is_some (area_of areas q) ≡ false) → areas_without first n areas ≡ areas
untouched first n low [] some from free = refl
untouched first n low (a ∷ areas) some from free =
    let rest : areas_without first n areas ≡ areas = untouched first n (a.first + a.pages) areas some from.2 (λ q le lt. elim (cases_Bool (holds a q)) [
      | inl held ↦ absurd (both_ways (is_some (area_of (a ∷ areas) q)) (free q le lt) (ap is_some (area_held a areas q held)))
      | inr passed ↦ ap is_some (sym (area_passed a areas q passed)) ∙ free q le lt
    ]) in
    elim (cases_lt first (a.first + a.pages)) [
      | inl above ↦ elim (cases_lt a.first (first + n)) [
        | inl meets ↦
            let page = max first a.first in
            absurd (both_ways (is_some (area_of (a ∷ areas) page)) (free page (omega arith) (omega arith))
            (ap is_some (area_held a areas page (holds_inside a page (omega arith) (omega (arith, from.1))))))
        | inr behind ↦ ap (λ l. l ++ areas_without first n areas) (without_above first n a above behind) ∙ ap (λ l. a ∷ l) rest
      ]
      | inr before ↦ ap (λ l. l ++ areas_without first n areas) (without_below first n a before) ∙ ap (λ l. a ∷ l) rest
    ]

pub made_mapped : (areas : List Area) (first n : ℕ) (perm : Perm) → 0 < n → AreInOrder areas → taken areas first n ≡ None
    → if_few (joined (pieces first (first + n) (Some (area_at first n perm)) areas)) ≡ areas_mapped areas first n perm
made_mapped areas first n perm some order free =
    let whole : areas_without first n areas ≡ areas =
    untouched first n 0 areas some (IsFrom-in_order areas order) (fails_below n (λ page. is_some (area_of areas page)) first free) in
    ap (λ l. if_few (joined l)) (protected_pieces areas first n perm order ∙ ap (with_area (area_at first n perm)) whole)
    ∙ sym (ap (λ found. or_refused Taken found (if_few (joined (with_area (area_at first n perm) areas)))) free)

pub made_unmapped : (areas : List Area) (first n : ℕ) → 0 < n → AreInOrder areas → if_few (joined (pieces first (first + n) None areas)) ≡ areas_unmapped areas first n
made_unmapped areas first n some order =
    let parts : pieces first (first + n) None areas ≡ areas_without first n areas =
    ap (λ l. l ++ areas_from (first + n) areas) (append-nil (areas_below first areas)) ∙ sym (areas_without_parts first n 0 areas (IsFrom-in_order areas order)) in
    ap (λ l. if_few (joined l)) parts ∙ ap if_few (joined_same (areas_without first n areas) (without_in_order first n areas some order))

pub made_protected : (areas : List Area) (first n : ℕ) (perm : Perm) → AreInOrder areas → outside areas first n ≡ None
    → if_few (joined (pieces first (first + n) (Some (area_at first n perm)) areas)) ≡ areas_protected areas first n perm
made_protected areas first n perm order held =
    ap (λ l. if_few (joined l)) (protected_pieces areas first n perm order)
    ∙ sym (ap (λ found. or_refused OutsideAreas found (if_few (joined (with_area (area_at first n perm) (areas_without first n areas))))) held)
