-- Areas that do not go beyond a page.
use Rattle.std.proofs.Common.{◌≡◌, ℕ, ◌+◌, ◌≤◌, min, max, List, [], ◌∷◌, ◌++◌, Some, None, Option, sym, subst, arith, inl, inr}
use Rattle.std.specs.List.{All, AllByRecursion}
use Rattle.std.proofs.lemmas.List.Elements.{All-from_recursion, recursion_from_All}
use Rattle.std.proofs.lemmas.Bool.{cases_lt, cases_Bool}
use Rattle.vm_base.specs.declared.permission.Perm.{Perm}
use Rattle.vm_base.specs.FlatMemory.{Area}
use Rattle.vm_base.specs.FlatStep.{joined, joined_front, area_between}
use Rattle.area_list.specs.Pieces.{area_below, area_from, areas_below, areas_from, area_or_none, pieces, IsOver}
use Rattle.area_list.proofs.Joining.{joins, joins_touches, front_joins, front_apart}
use Rattle.area_list.proofs.Parts.{area_between_some, area_between_none}

abbrev pub EndBy : ℕ → List Area → Type 0
EndBy limit areas = AllByRecursion (λ area. area.first + area.pages ≤ limit) areas

front_end : (limit : ℕ) (a : Area) (areas : List Area) → a.first + a.pages ≤ limit → EndBy limit areas → EndBy limit (joined_front a areas)
front_end limit a [] le ends = (le, tt)
front_end limit a (b ∷ areas) le ends = elim (cases_Bool (joins a b)) [
  | inl one ↦
      let touches : a.first + a.pages ≡ b.first = joins_touches a b one in
      subst (EndBy limit) (sym (front_joins a b areas one)) (omega (arith, ends.0), ends.1)
  | inr two ↦ subst (EndBy limit) (sym (front_apart a b areas two)) (le, ends)
]

joined_end : (limit : ℕ) (areas : List Area) → EndBy limit areas → EndBy limit (joined areas)
joined_end limit [] ends = tt
joined_end limit (a ∷ areas) ends = front_end limit a (joined areas) ends.0 (joined_end limit areas ends.1)

append_end : (limit : ℕ) (xs ys : List Area) → EndBy limit xs → EndBy limit ys → EndBy limit (xs ++ ys)
append_end limit [] ys first second = second
append_end limit (x ∷ xs) ys first second = (first.0, append_end limit xs ys first.1 second)

between_end : (limit first end : ℕ) (perm : Perm) → end ≤ limit → EndBy limit (area_between first end perm)
between_end limit first end perm le = elim (cases_lt first end) [
  | inl some ↦ subst (EndBy limit) (sym (area_between_some first end perm some)) (omega arith, tt)
  | inr none ↦ subst (EndBy limit) (sym (area_between_none first end perm none)) tt
]

below_end : (limit page : ℕ) (areas : List Area) → EndBy limit areas → EndBy limit (areas_below page areas)
below_end limit page [] ends = tt
below_end limit page (a ∷ areas) ends =
    append_end limit (area_below page a) (areas_below page areas)
    (between_end limit a.first (min (a.first + a.pages) page) a.perm (omega (arith, ends.0))) (below_end limit page areas ends.1)

from_end : (limit page : ℕ) (areas : List Area) → EndBy limit areas → EndBy limit (areas_from page areas)
from_end limit page [] ends = tt
from_end limit page (a ∷ areas) ends =
    append_end limit (area_from page a) (areas_from page areas)
    (between_end limit (max a.first page) (a.first + a.pages) a.perm ends.0) (from_end limit page areas ends.1)

some_end : (limit first n : ℕ) (between : Option Area) → IsOver first n between → first + n ≤ limit → EndBy limit (area_or_none between)
some_end limit first n None over le = tt
some_end limit first n (Some area) over le = (omega (arith, over.0, over.1), tt)

-- the pieces joined end where the areas did
pub pieces_end : (limit first n : ℕ) (between : Option Area) (areas : List Area) → IsOver first n between → first + n ≤ limit
    → All (λ area. area.first + area.pages ≤ limit) areas → All (λ area. area.first + area.pages ≤ limit) (joined (pieces first (first + n) between areas))
pieces_end limit first n between areas over le ends =
    let known : EndBy limit areas = recursion_from_All (λ area. area.first + area.pages ≤ limit) areas ends in
    All-from_recursion (λ area. area.first + area.pages ≤ limit) (joined (pieces first (first + n) between areas))
    (joined_end limit (pieces first (first + n) between areas)
    (append_end limit (areas_below first areas ++ area_or_none between) (areas_from (first + n) areas)
    (append_end limit (areas_below first areas) (area_or_none between) (below_end limit first areas known) (some_end limit first n between over le))
    (from_end limit (first + n) areas known)))
