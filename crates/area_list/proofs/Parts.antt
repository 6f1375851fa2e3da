-- What lies below a page of some areas, and what lies from a page on.
use Rattle.std.proofs.Common.{◌≡◌, ℕ, ◌+◌, ◌-◌, ◌<◌, ◌≤◌, min, max, List, [], ◌∷◌, ◌++◌, ltb, refl, sym, ◌∙◌, ap, subst, arith, inl, inr, append_assoc, Option, Some, None}
use Rattle.std.proofs.lemmas.Bool.{cases_lt, cond-true, cond-false, lt-ltb, le-ltb}
use Rattle.vm_base.specs.declared.permission.Perm.{Perm}
use Rattle.vm_base.specs.FlatMemory.{Area}
use Rattle.vm_base.specs.FlatStep.{area_between}
use Rattle.area_list.specs.Pieces.{area_below, area_from, areas_below, areas_from, area_or_none, pieces, IsOver}
use Rattle.area_list.proofs.Order.{IsFrom, IsBetween, IsFrom-weaker, IsFrom-append}

-- the pages from first to below end
abbrev pub run : ℕ → ℕ → Perm → Area
run first end perm = record { first = first; pages = end - first; perm = perm }

pub area_between_some : (first end : ℕ) (perm : Perm) → first < end → area_between first end perm ≡ run first end perm ∷ []
area_between_some first end perm lt = cond-true (ltb first end) _ _ (lt-ltb first end lt)

pub area_between_none : (first end : ℕ) (perm : Perm) → end ≤ first → area_between first end perm ≡ []
area_between_none first end perm le = cond-false (ltb first end) _ _ (le-ltb first end le)

-- a whole area
pub area_between_whole : (a : Area) → 0 < a.pages → area_between a.first (a.first + a.pages) a.perm ≡ a ∷ []
area_between_whole a some =
    let size : a.first + a.pages - a.first ≡ a.pages = omega arith in
    area_between_some a.first (a.first + a.pages) a.perm (omega arith) ∙ ap (λ n. record a { pages = n } ∷ []) size

-- ---- one area
pub area_below_all : (page : ℕ) (a : Area) → 0 < a.pages → a.first + a.pages ≤ page → area_below page a ≡ a ∷ []
area_below_all page a some le =
    let least : min (a.first + a.pages) page ≡ a.first + a.pages = omega arith in
    ap (λ end. area_between a.first end a.perm) least ∙ area_between_whole a some

pub area_below_none : (page : ℕ) (a : Area) → page ≤ a.first → area_below page a ≡ []
area_below_none page a le = area_between_none a.first (min (a.first + a.pages) page) a.perm (omega arith)

pub area_below_some : (page : ℕ) (a : Area) → a.first < page → page ≤ a.first + a.pages → area_below page a ≡ run a.first page a.perm ∷ []
area_below_some page a lt le =
    let least : min (a.first + a.pages) page ≡ page = omega arith in
    ap (λ end. area_between a.first end a.perm) least ∙ area_between_some a.first page a.perm lt

pub area_from_all : (page : ℕ) (a : Area) → 0 < a.pages → page ≤ a.first → area_from page a ≡ a ∷ []
area_from_all page a some le =
    let most : max a.first page ≡ a.first = omega arith in
    ap (λ first. area_between first (a.first + a.pages) a.perm) most ∙ area_between_whole a some

pub area_from_none : (page : ℕ) (a : Area) → a.first + a.pages ≤ page → area_from page a ≡ []
area_from_none page a le = area_between_none (max a.first page) (a.first + a.pages) a.perm (omega arith)

pub area_from_some : (page : ℕ) (a : Area) → a.first ≤ page → page < a.first + a.pages → area_from page a ≡ run page (a.first + a.pages) a.perm ∷ []
area_from_some page a le lt =
    let most : max a.first page ≡ page = omega arith in
    ap (λ first. area_between first (a.first + a.pages) a.perm) most ∙ area_between_some page (a.first + a.pages) a.perm lt

-- ---- areas beyond the page
pub below_none : (page low : ℕ) (areas : List Area) → page ≤ low → IsFrom low areas → areas_below page areas ≡ []
below_none page low [] le from = refl
below_none page low (a ∷ areas) le from =
    ap (λ l. l ++ areas_below page areas) (area_below_none page a (omega (arith, from.0)))
    ∙ below_none page (a.first + a.pages) areas (omega (arith, from.0)) from.2

pub from_all : (page low : ℕ) (areas : List Area) → page ≤ low → IsFrom low areas → areas_from page areas ≡ areas
from_all page low [] le from = refl
from_all page low (a ∷ areas) le from =
    ap (λ l. l ++ areas_from page areas) (area_from_all page a from.1 (omega (arith, from.0)))
    ∙ ap (λ l. a ∷ l) (from_all page (a.first + a.pages) areas (omega (arith, from.0)) from.2)

-- ---- where the parts lie
pub below_between : (page low : ℕ) (areas : List Area) → low ≤ page → IsFrom low areas → IsBetween low page (areas_below page areas)
below_between page low [] le from = le
below_between page low (a ∷ areas) le from = elim (cases_lt a.first page) [
  | inl lt ↦ elim (cases_lt (a.first + a.pages) page) [
    | inl whole ↦ subst (λ l. IsBetween low page (l ++ areas_below page areas)) (sym (area_below_all page a from.1 (omega arith)))
        (from.0, from.1, below_between page (a.first + a.pages) areas (omega arith) from.2)
    | inr part ↦
        let none = below_none page (a.first + a.pages) areas part from.2 in
        let end : page ≡ a.first + (page - a.first) = omega arith in
        subst (λ l. IsBetween low page (l ++ areas_below page areas)) (sym (area_below_some page a lt part))
        (from.0, omega arith, subst (λ l. IsBetween (a.first + (page - a.first)) page l) (sym none) (omega arith))
  ]
  | inr beyond ↦ subst (IsBetween low page) (sym (below_none page a.first (a ∷ areas) beyond (omega arith, from.1, from.2))) le
]

pub from_from : (page low : ℕ) (areas : List Area) → IsFrom low areas → IsFrom page (areas_from page areas)
from_from page low [] from = tt
from_from page low (a ∷ areas) from = elim (cases_lt page (a.first + a.pages)) [
  | inl some ↦
      let rest : IsFrom (a.first + a.pages) (areas_from page areas) =
      subst (IsFrom (a.first + a.pages)) (sym (from_all page (a.first + a.pages) areas (omega arith) from.2)) from.2 in
      elim (cases_lt page a.first) [
        | inl all ↦ subst (λ l. IsFrom page (l ++ areas_from page areas)) (sym (area_from_all page a from.1 (omega arith))) (omega arith, from.1, rest)
        | inr part ↦
            let end : a.first + a.pages ≡ page + (a.first + a.pages - page) = omega arith in
            subst (λ l. IsFrom page (l ++ areas_from page areas)) (sym (area_from_some page a part some))
            (omega arith, omega arith, subst (λ e. IsFrom e (areas_from page areas)) end rest)
      ]
  | inr none ↦ subst (λ l. IsFrom page (l ++ areas_from page areas)) (sym (area_from_none page a none)) (from_from page (a.first + a.pages) areas from.2)
]

-- the pieces with an area, or none, between them lie one behind another
pub pieces_from : (first n : ℕ) (between : Option Area) (areas : List Area) → 0 < n → IsOver first n between → IsFrom 0 areas → IsFrom 0 (pieces first (first + n) between areas)
pieces_from first n between areas some over from =
    subst (IsFrom 0) (sym (append_assoc (areas_below first areas) (area_or_none between) (areas_from (first + n) areas)))
    (IsFrom-append 0 first (areas_below first areas) (area_or_none between ++ areas_from (first + n) areas)
    (below_between first 0 areas (omega arith) from) (later first n between (areas_from (first + n) areas) some over (from_from (first + n) 0 areas from)))
  where
    later : (first n : ℕ) (between : Option Area) (ys : List Area) → 0 < n → IsOver first n between → IsFrom (first + n) ys → IsFrom first (area_or_none between ++ ys)
    later first n None ys some over from = IsFrom-weaker (first + n) first ys (omega arith) from
    later first n (Some area) ys some over from =
        let end : first + n ≡ area.first + area.pages = omega (arith, over.0, over.1) in
        (omega (arith, over.0), omega (arith, over.1), subst (λ e. IsFrom e ys) end from)
