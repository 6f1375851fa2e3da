-- The permission that lists of areas give a page.
use Rattle.std.proofs.Common.{◌≡◌, ◌⊎◌, ℕ, ◌+◌, ◌<◌, ◌≤◌, min, max, List, [], ◌∷◌, ◌++◌, ltb, leb, Some, None, Option, refl, sym, ◌∙◌, ap, arith, inl, inr, true, false}
use Rattle.std.specs.Option.{option_map, option_or}
use Rattle.std.proofs.lemmas.Bool.{cases_lt, cases_Bool, cond-true, cond-false, lt-ltb, le-ltb, le-leb, lt-leb, and_from, and_left, and_right, and_parts, leb-true, ltb-true}
use Rattle.vm_base.specs.declared.permission.Perm.{Perm}
use Rattle.vm_base.specs.FlatMemory.{Area, holds, area_of}
use Rattle.vm_base.specs.FlatStep.{joined, joined_front, area_between}
use Rattle.area_list.specs.AreaList.{permission_at, is_among, Sets}
use Rattle.area_list.specs.Pieces.{area_below, area_from, areas_below, areas_from, area_or_none, pieces, IsOver}
use Rattle.area_list.proofs.Joining.{joins, both, joins_touches, joins_alike, front_joins, front_apart}
use Rattle.area_list.proofs.Parts.{run, area_between_some, area_between_none}

-- ---- whether an area holds a page
pub holds_inside : (a : Area) (page : ℕ) → a.first ≤ page → page < a.first + a.pages → holds a page ≡ true
holds_inside a page le lt = and_from (leb a.first page) (ltb page (a.first + a.pages)) (le-leb a.first page le) (lt-ltb page (a.first + a.pages) lt)

pub holds_before : (a : Area) (page : ℕ) → page < a.first → holds a page ≡ false
holds_before a page lt = and_left (leb a.first page) (ltb page (a.first + a.pages)) (lt-leb a.first page lt)

pub holds_behind : (a : Area) (page : ℕ) → a.first + a.pages ≤ page → holds a page ≡ false
holds_behind a page le = and_right (leb a.first page) (ltb page (a.first + a.pages)) (le-ltb page (a.first + a.pages) le)

pub holds_parts : (a : Area) (page : ℕ) → holds a page ≡ true → (a.first ≤ page) × (page < a.first + a.pages)
holds_parts a page held =
    let parts = and_parts (leb a.first page) (ltb page (a.first + a.pages)) held in
    (leb-true a.first page parts.0, ltb-true page (a.first + a.pages) parts.1)

-- ---- an area in front
pub permission_held : (a : Area) (areas : List Area) (page : ℕ) → holds a page ≡ true → permission_at (a ∷ areas) page ≡ Some a.perm
permission_held a areas page held = ap (option_map (λ area. area.perm)) (cond-true (holds a page) (Some a) (area_of areas page) held)

pub permission_passed : (a : Area) (areas : List Area) (page : ℕ) → holds a page ≡ false → permission_at (a ∷ areas) page ≡ permission_at areas page
permission_passed a areas page passed = ap (option_map (λ area. area.perm)) (cond-false (holds a page) (Some a) (area_of areas page) passed)

-- areas that give a page the same permission give it the same with another in front of both
front_same : (a : Area) (xs ys : List Area) (page : ℕ) → permission_at xs page ≡ permission_at ys page → permission_at (a ∷ xs) page ≡ permission_at (a ∷ ys) page
front_same a xs ys page same = elim (cases_Bool (holds a page)) [
  | inl held ↦ permission_held a xs page held ∙ sym (permission_held a ys page held)
  | inr passed ↦ permission_passed a xs page passed ∙ same ∙ sym (permission_passed a ys page passed)
]

pub permission_append : (xs ys : List Area) (page : ℕ) → permission_at (xs ++ ys) page ≡ option_or (permission_at xs page) (permission_at ys page)
permission_append [] ys page = refl
permission_append (x ∷ xs) ys page = elim (cases_Bool (holds x page)) [
  | inl held ↦ permission_held x (xs ++ ys) page held ∙ sym (ap (λ o. option_or o (permission_at ys page)) (permission_held x xs page held))
  | inr passed ↦ permission_passed x (xs ++ ys) page passed ∙ permission_append xs ys page
      ∙ sym (ap (λ o. option_or o (permission_at ys page)) (permission_passed x xs page passed))
]

-- ---- joined
two_as_one : (a b : Area) (areas : List Area) (page : ℕ) → joins a b ≡ true → permission_at (both a b ∷ areas) page ≡ permission_at (a ∷ b ∷ areas) page
two_as_one a b areas page one =
    let touches : a.first + a.pages ≡ b.first = joins_touches a b one in
    elim (cases_lt page a.first) [
      | inl before ↦ permission_passed (both a b) areas page (holds_before (both a b) page before)
          ∙ sym (permission_passed a (b ∷ areas) page (holds_before a page before) ∙ permission_passed b areas page (holds_before b page (omega arith)))
      | inr begun ↦ elim (cases_lt page (a.first + a.pages)) [
        | inl first ↦ permission_held (both a b) areas page (holds_inside (both a b) page begun (omega arith))
            ∙ sym (permission_held a (b ∷ areas) page (holds_inside a page begun first))
        | inr later ↦ elim (cases_lt page (b.first + b.pages)) [
          | inl second ↦ permission_held (both a b) areas page (holds_inside (both a b) page begun (omega arith))
              ∙ ap Some (joins_alike a b one)
              ∙ sym (permission_passed a (b ∷ areas) page (holds_behind a page later) ∙ permission_held b areas page (holds_inside b page (omega arith) second))
          | inr behind ↦ permission_passed (both a b) areas page (holds_behind (both a b) page (omega arith))
              ∙ sym (permission_passed a (b ∷ areas) page (holds_behind a page later) ∙ permission_passed b areas page (holds_behind b page behind))
        ]
      ]
    ]

permission_front : (a : Area) (areas : List Area) (page : ℕ) → permission_at (joined_front a areas) page ≡ permission_at (a ∷ areas) page
permission_front a [] page = refl
permission_front a (b ∷ areas) page = elim (cases_Bool (joins a b)) [
  | inl one ↦ ap (λ l. permission_at l page) (front_joins a b areas one) ∙ two_as_one a b areas page one
  | inr two ↦ ap (λ l. permission_at l page) (front_apart a b areas two)
]

-- joining changes no page
pub permission_joined : (areas : List Area) (page : ℕ) → permission_at (joined areas) page ≡ permission_at areas page
permission_joined [] page = refl
permission_joined (a ∷ areas) page = permission_front a (joined areas) page ∙ front_same a (joined areas) areas page (permission_joined areas page)

-- ---- parts
permission_between_out : (first end : ℕ) (perm : Perm) (page : ℕ) → (page < first) ⊎ (end ≤ page) → permission_at (area_between first end perm) page ≡ None
permission_between_out first end perm page out = elim (cases_lt first end) [
  | inl some ↦ ap (λ l. permission_at l page) (area_between_some first end perm some) ∙ permission_passed (run first end perm) [] page (elim out [
    | inl before ↦ holds_before (run first end perm) page before
    | inr behind ↦ holds_behind (run first end perm) page (omega arith)
  ])
  | inr none ↦ ap (λ l. permission_at l page) (area_between_none first end perm none)
]

permission_between_in : (first end : ℕ) (perm : Perm) (page : ℕ) → first ≤ page → page < end → permission_at (area_between first end perm) page ≡ Some perm
permission_between_in first end perm page le lt =
    ap (λ l. permission_at l page) (area_between_some first end perm (omega arith))
    ∙ permission_held (run first end perm) [] page (holds_inside (run first end perm) page le (omega arith))

one_below : (limit : ℕ) (a : Area) (page : ℕ) → page < limit → permission_at (area_below limit a) page ≡ permission_at (a ∷ []) page
one_below limit a page lt = elim (cases_lt page a.first) [
  | inl before ↦ permission_between_out a.first (min (a.first + a.pages) limit) a.perm page (inl before) ∙ sym (permission_passed a [] page (holds_before a page before))
  | inr begun ↦ elim (cases_lt page (a.first + a.pages)) [
    | inl inside ↦ permission_between_in a.first (min (a.first + a.pages) limit) a.perm page begun (omega arith) ∙ sym (permission_held a [] page (holds_inside a page begun inside))
    | inr behind ↦ permission_between_out a.first (min (a.first + a.pages) limit) a.perm page (inr (omega arith)) ∙ sym (permission_passed a [] page (holds_behind a page behind))
  ]
]

one_from : (limit : ℕ) (a : Area) (page : ℕ) → limit ≤ page → permission_at (area_from limit a) page ≡ permission_at (a ∷ []) page
one_from limit a page le = elim (cases_lt page a.first) [
  | inl before ↦ permission_between_out (max a.first limit) (a.first + a.pages) a.perm page (inl (omega arith)) ∙ sym (permission_passed a [] page (holds_before a page before))
  | inr begun ↦ elim (cases_lt page (a.first + a.pages)) [
    | inl inside ↦ permission_between_in (max a.first limit) (a.first + a.pages) a.perm page (omega arith) inside ∙ sym (permission_held a [] page (holds_inside a page begun inside))
    | inr behind ↦ permission_between_out (max a.first limit) (a.first + a.pages) a.perm page (inr behind) ∙ sym (permission_passed a [] page (holds_behind a page behind))
  ]
]

-- below the limit the part below it has what the areas have
pub below_here : (limit : ℕ) (areas : List Area) (page : ℕ) → page < limit → permission_at (areas_below limit areas) page ≡ permission_at areas page
below_here limit [] page lt = refl
below_here limit (a ∷ areas) page lt =
    permission_append (area_below limit a) (areas_below limit areas) page
    ∙ ap (λ o. option_or o (permission_at (areas_below limit areas) page)) (one_below limit a page lt)
    ∙ ap (option_or (permission_at (a ∷ []) page)) (below_here limit areas page lt)
    ∙ sym (permission_append (a ∷ []) areas page)

pub below_nowhere : (limit : ℕ) (areas : List Area) (page : ℕ) → limit ≤ page → permission_at (areas_below limit areas) page ≡ None
below_nowhere limit [] page le = refl
below_nowhere limit (a ∷ areas) page le =
    permission_append (area_below limit a) (areas_below limit areas) page
    ∙ ap (λ o. option_or o (permission_at (areas_below limit areas) page)) (permission_between_out a.first (min (a.first + a.pages) limit) a.perm page (inr (omega arith)))
    ∙ below_nowhere limit areas page le

pub from_here : (limit : ℕ) (areas : List Area) (page : ℕ) → limit ≤ page → permission_at (areas_from limit areas) page ≡ permission_at areas page
from_here limit [] page le = refl
from_here limit (a ∷ areas) page le =
    permission_append (area_from limit a) (areas_from limit areas) page
    ∙ ap (λ o. option_or o (permission_at (areas_from limit areas) page)) (one_from limit a page le)
    ∙ ap (option_or (permission_at (a ∷ []) page)) (from_here limit areas page le)
    ∙ sym (permission_append (a ∷ []) areas page)

pub from_nowhere : (limit : ℕ) (areas : List Area) (page : ℕ) → page < limit → permission_at (areas_from limit areas) page ≡ None
from_nowhere limit [] page lt = refl
from_nowhere limit (a ∷ areas) page lt =
    permission_append (area_from limit a) (areas_from limit areas) page
    ∙ ap (λ o. option_or o (permission_at (areas_from limit areas) page)) (permission_between_out (max a.first limit) (a.first + a.pages) a.perm page (inl (omega arith)))
    ∙ from_nowhere limit areas page lt

-- ---- the pieces
option_or-none : {X : Type 0} (o : Option X) → option_or o None ≡ o
option_or-none None = refl
option_or-none (Some x) = refl

pieces_at : (first end : ℕ) (between : Option Area) (areas : List Area) (page : ℕ) → permission_at (pieces first end between areas) page
    ≡ option_or (option_or (permission_at (areas_below first areas) page) (permission_at (area_or_none between) page)) (permission_at (areas_from end areas) page)
pieces_at first end between areas page =
    permission_append (areas_below first areas ++ area_or_none between) (areas_from end areas) page
    ∙ ap (λ o. option_or o (permission_at (areas_from end areas) page)) (permission_append (areas_below first areas) (area_or_none between) page)

between_out : (first n : ℕ) (between : Option Area) (page : ℕ) → IsOver first n between → (page < first) ⊎ (first + n ≤ page) → permission_at (area_or_none between) page ≡ None
between_out first n None page over out = refl
between_out first n (Some area) page over out = permission_passed area [] page (elim out [
  | inl before ↦ holds_before area page (omega (arith, over.0))
  | inr behind ↦ holds_behind area page (omega (arith, over.0, over.1))
])

between_in : (first n : ℕ) (between : Option Area) (page : ℕ) → IsOver first n between → first ≤ page → page < first + n → permission_at (area_or_none between) page ≡ option_map (λ area. area.perm) between
between_in first n None page over le lt = refl
between_in first n (Some area) page over le lt = permission_held area [] page (holds_inside area page (omega (arith, over.0)) (omega (arith, over.0, over.1)))

-- the pieces joined have the new permission at the n pages, and the old one elsewhere
pub pieces_set : (first n : ℕ) (between : Option Area) (areas new : List Area) → IsOver first n between → new ≡ joined (pieces first (first + n) between areas)
    → Sets areas new first n (option_map (λ area. area.perm) between)
pieces_set first n between areas new over made page =
    let below = permission_at (areas_below first areas) page in
    let some = permission_at (area_or_none between) page in
    let behind = permission_at (areas_from (first + n) areas) page in
    let old = permission_at areas page in
    let perm = option_map (λ (area : Area). area.perm) between in
    ap (λ l. permission_at l page) made ∙ permission_joined (pieces first (first + n) between areas) page ∙ pieces_at first (first + n) between areas page
    ∙ elim (cases_lt page first) [
      | inl before ↦
          ap (λ o. option_or (option_or below o) behind) (between_out first n between page over (inl before))
          ∙ ap (λ o. option_or (option_or below None) o) (from_nowhere (first + n) areas page (omega arith))
          ∙ option_or-none (option_or below None) ∙ option_or-none below ∙ below_here first areas page before
          ∙ sym (cond-false (is_among first n page) perm old (and_left (leb first page) (ltb page (first + n)) (lt-leb first page before)))
      | inr begun ↦ elim (cases_lt page (first + n)) [
        | inl inside ↦
            ap (λ o. option_or (option_or o some) behind) (below_nowhere first areas page begun)
            ∙ ap (λ o. option_or some o) (from_nowhere (first + n) areas page inside)
            ∙ option_or-none some ∙ between_in first n between page over begun inside
            ∙ sym (cond-true (is_among first n page) perm old (and_from (leb first page) (ltb page (first + n)) (le-leb first page begun) (lt-ltb page (first + n) inside)))
        | inr past ↦
            ap (λ o. option_or (option_or o some) behind) (below_nowhere first areas page begun)
            ∙ ap (λ o. option_or o behind) (between_out first n between page over (inr past))
            ∙ from_here (first + n) areas page past
            ∙ sym (cond-false (is_among first n page) perm old (and_right (leb first page) (ltb page (first + n)) (le-ltb page (first + n) past)))
      ]
    ]
