-- The areas without some pages, from what lies below those and what lies behind them, and an area in their place.
use Rattle.std.proofs.Common.{◌≡◌, ℕ, ◌+◌, ◌-◌, ◌<◌, ◌≤◌, min, max, List, [], ◌∷◌, ◌++◌, leb, refl, sym, ◌∙◌, ap, subst, arith, inl, inr, append_assoc, append-nil}
use Rattle.std.proofs.lemmas.Bool.{cases_lt, cond-true, cond-false, le-leb, lt-leb}
use Rattle.vm_base.specs.FlatMemory.{Area, AreInOrder}
use Rattle.vm_base.specs.FlatStep.{area_between, area_without, areas_without, with_area}
use Rattle.area_list.specs.Pieces.{area_below, area_from, areas_below, areas_from}
use Rattle.area_list.proofs.Order.{IsFrom, IsBetween, IsApart, order_parts, order_from, IsFrom-weaker, IsFrom-in_order, between_le}
use Rattle.area_list.proofs.Parts.{run, area_below_all, area_below_none, area_below_some, area_from_all, area_from_none, area_from_some, below_none, from_all, below_between, from_from}

-- ---- one area without n pages
pub without_below : (first n : ℕ) (a : Area) → a.first + a.pages ≤ first → area_without first n a ≡ a ∷ []
without_below first n a le = cond-true (leb (a.first + a.pages) first) _ _ (le-leb (a.first + a.pages) first le)

pub without_above : (first n : ℕ) (a : Area) → first < a.first + a.pages → first + n ≤ a.first → area_without first n a ≡ a ∷ []
without_above first n a above le =
    cond-false (leb (a.first + a.pages) first) _ _ (lt-leb (a.first + a.pages) first above)
    ∙ cond-true (leb (first + n) a.first) _ _ (le-leb (first + n) a.first le)

without_meeting : (first n : ℕ) (a : Area) → first < a.first + a.pages → a.first < first + n
    → area_without first n a ≡ area_between a.first first a.perm ++ area_between (first + n) (a.first + a.pages) a.perm
without_meeting first n a above lt =
    cond-false (leb (a.first + a.pages) first) _ _ (lt-leb (a.first + a.pages) first above)
    ∙ cond-false (leb (first + n) a.first) _ _ (lt-leb (first + n) a.first lt)

-- an area that meets the pages: its two parts
meeting_parts : (first n : ℕ) (a : Area) → first < a.first + a.pages → a.first < first + n → area_without first n a ≡ area_below first a ++ area_from (first + n) a
meeting_parts first n a above lt =
    let least : min (a.first + a.pages) first ≡ first = omega arith in
    let most : max a.first (first + n) ≡ first + n = omega arith in
    without_meeting first n a above lt
    ∙ sym (ap (λ end. area_between a.first end a.perm ++ area_from (first + n) a) least
    ∙ ap (λ start. area_between a.first first a.perm ++ area_between start (a.first + a.pages) a.perm) most)

-- ---- all areas
pub areas_without_parts : (first n low : ℕ) (areas : List Area) → IsFrom low areas → areas_without first n areas ≡ areas_below first areas ++ areas_from (first + n) areas
areas_without_parts first n low [] from = refl
areas_without_parts first n low (a ∷ areas) from =
    let below = areas_below first areas in
    let behind = areas_from (first + n) areas in
    let rest = areas_without_parts first n (a.first + a.pages) areas from.2 in
    elim (cases_lt first (a.first + a.pages)) [
      | inl above ↦
          let none = below_none first (a.first + a.pages) areas (omega arith) from.2 in
          elim (cases_lt a.first (first + n)) [
            | inl meets ↦
                ap (λ l. l ++ areas_without first n areas) (meeting_parts first n a above meets)
                ∙ ap (λ l. (area_below first a ++ area_from (first + n) a) ++ l) (rest ∙ ap (λ l. l ++ behind) none)
                ∙ append_assoc (area_below first a) (area_from (first + n) a) behind
                ∙ sym (ap (λ l. (area_below first a ++ l) ++ (area_from (first + n) a ++ behind)) none
                ∙ ap (λ l. l ++ (area_from (first + n) a ++ behind)) (append-nil (area_below first a)))
            | inr behind_all ↦
                ap (λ l. l ++ areas_without first n areas) (without_above first n a above behind_all)
                ∙ ap (λ l. a ∷ l) (rest ∙ ap (λ l. l ++ behind) none)
                ∙ sym (ap (λ l. (l ++ below) ++ (area_from (first + n) a ++ behind)) (area_below_none first a (omega arith))
                ∙ ap (λ l. l ++ (area_from (first + n) a ++ behind)) none
                ∙ ap (λ l. l ++ behind) (area_from_all (first + n) a from.1 behind_all))
          ]
      | inr whole ↦
          ap (λ l. l ++ areas_without first n areas) (without_below first n a whole)
          ∙ ap (λ l. a ∷ l) rest
          ∙ sym (ap (λ l. (l ++ below) ++ (area_from (first + n) a ++ behind)) (area_below_all first a from.1 whole)
          ∙ ap (λ l. (a ∷ below) ++ (l ++ behind)) (area_from_none (first + n) a (omega arith)))
    ]

-- an area between those that lie below it and those that begin where it does or behind it
pub with_area_between : (low : ℕ) (area : Area) (xs ys : List Area) → IsBetween low area.first xs → IsFrom area.first ys → with_area area (xs ++ ys) ≡ xs ++ area ∷ ys
with_area_between low area [] [] between from = refl
with_area_between low area [] (y ∷ ys) between from = cond-true (leb area.first y.first) _ _ (le-leb area.first y.first from.0)
with_area_between low area (x ∷ xs) ys between from =
    let end : x.first + x.pages ≤ area.first = between_le (x.first + x.pages) area.first xs between.2 in
    cond-false (leb area.first x.first) _ _ (lt-leb area.first x.first (omega (arith, between.1)))
    ∙ ap (λ l. x ∷ l) (with_area_between (x.first + x.pages) area xs ys between.2 from)

-- the same at the pages that were taken out
pub with_area_parts : (area : Area) (low : ℕ) (areas : List Area) → low ≤ area.first → IsFrom low areas
    → with_area area (areas_without area.first area.pages areas) ≡ areas_below area.first areas ++ area ∷ areas_from (area.first + area.pages) areas
with_area_parts area low areas le from =
    ap (with_area area) (areas_without_parts area.first area.pages low areas from)
    ∙ with_area_between low area (areas_below area.first areas) (areas_from (area.first + area.pages) areas)
    (below_between area.first low areas le from)
    (IsFrom-weaker (area.first + area.pages) area.first (areas_from (area.first + area.pages) areas) (omega arith) (from_from (area.first + area.pages) low areas from))

-- ---- in order
head_apart : (a b : Area) (ys zs : List Area) → IsApart a (b ∷ ys) → (c : Area) → c.first ≡ b.first → c.perm ≡ b.perm → IsApart a (c ∷ zs)
head_apart a b ys zs apart c here alike =
    (omega (arith, apart.0), λ touches same. apart.1 (touches ∙ here) (same ∙ alike))

-- the part from a page on is in order
pub from_in_order : (page low : ℕ) (areas : List Area) → IsFrom low areas → AreInOrder areas → AreInOrder (areas_from page areas)
from_in_order page low [] from order = tt
from_in_order page low (a ∷ areas) from order =
    let parts = order_parts a areas order in
    elim (cases_lt page (a.first + a.pages)) [
      | inl some ↦
          let all : areas_from page areas ≡ areas = from_all page (a.first + a.pages) areas (omega arith) from.2 in
          elim (cases_lt page a.first) [
            | inl whole ↦ subst AreInOrder (sym (ap (λ l. l ++ areas_from page areas) (area_from_all page a from.1 (omega arith)) ∙ ap (λ l. a ∷ l) all)) order
            | inr part ↦ subst AreInOrder (sym (ap (λ l. l ++ areas_from page areas) (area_from_some page a part some) ∙ ap (λ l. run page (a.first + a.pages) a.perm ∷ l) all))
                (order_from (run page (a.first + a.pages) a.perm) areas (omega arith) (same_end page a areas some parts.1) parts.2)
          ]
      | inr none ↦ subst AreInOrder (sym (ap (λ l. l ++ areas_from page areas) (area_from_none page a none))) (from_in_order page (a.first + a.pages) areas from.2 parts.2)
    ]
  where
    same_end : (page : ℕ) (a : Area) (ys : List Area) → page < a.first + a.pages → IsApart a ys → IsApart (run page (a.first + a.pages) a.perm) ys
    same_end page a [] lt apart = tt
    same_end page a (y ∷ ys) lt apart =
        let end : page + (a.first + a.pages - page) ≡ a.first + a.pages = omega arith in
        (omega (arith, apart.0), λ touches same. apart.1 (sym end ∙ touches) same)

-- an area that ends below a page stands apart from those behind the page
apart_behind : (a : Area) (page : ℕ) (ys : List Area) → a.first + a.pages ≤ page → IsFrom (page + 1) ys → IsApart a ys
apart_behind a page [] le from = tt
apart_behind a page (y ∷ ys) le from = (omega (arith, from.0), λ touches same. omega (arith, from.0))

-- what lies below a page, and areas in order behind that page, with a gap between the two
pub below_in_order : (page low : ℕ) (areas behind : List Area) → IsFrom low areas → AreInOrder areas → IsFrom (page + 1) behind → AreInOrder behind → AreInOrder (areas_below page areas ++ behind)
below_in_order page low [] behind from order beyond later = later
below_in_order page low (a ∷ areas) behind from order beyond later =
    let parts = order_parts a areas order in
    elim (cases_lt a.first page) [
      | inl some ↦ elim (cases_lt (a.first + a.pages) page) [
        | inl whole ↦
            subst (λ l. AreInOrder ((l ++ areas_below page areas) ++ behind)) (sym (area_below_all page a from.1 (omega arith)))
            (order_from a (areas_below page areas ++ behind) from.1 (apart_below page a areas behind whole from.2 parts.1 beyond)
            (below_in_order page (a.first + a.pages) areas behind from.2 parts.2 beyond later))
        | inr part ↦
            subst (λ l. AreInOrder (l ++ behind)) (sym (ap (λ l. l ++ areas_below page areas) (area_below_some page a some part)
            ∙ ap (λ l. run a.first page a.perm ∷ l) (below_none page (a.first + a.pages) areas part from.2)))
            (order_from (run a.first page a.perm) behind (omega arith) (apart_behind (run a.first page a.perm) page behind (omega arith) beyond) later)
      ]
      | inr none ↦ subst (λ l. AreInOrder (l ++ behind)) (sym (below_none page a.first (a ∷ areas) none (omega arith, from.1, from.2))) later
    ]
  where
    apart_below : (page : ℕ) (a : Area) (ys behind : List Area) → a.first + a.pages < page → IsFrom (a.first + a.pages) ys → IsApart a ys → IsFrom (page + 1) behind → IsApart a (areas_below page ys ++ behind)
    apart_below page a [] behind lt from apart beyond = apart_behind a page behind (omega arith) beyond
    apart_below page a (y ∷ ys) behind lt from apart beyond = elim (cases_lt y.first page) [
      | inl some ↦ elim (cases_lt (y.first + y.pages) page) [
        | inl whole ↦ subst (λ l. IsApart a ((l ++ areas_below page ys) ++ behind)) (sym (area_below_all page y from.1 (omega arith))) (head_apart a y ys (areas_below page ys ++ behind) apart y refl refl)
        | inr part ↦ subst (λ l. IsApart a ((l ++ areas_below page ys) ++ behind)) (sym (area_below_some page y some part)) (head_apart a y ys (areas_below page ys ++ behind) apart (run y.first page y.perm) refl refl)
      ]
      | inr none ↦ subst (λ l. IsApart a (l ++ behind)) (sym (below_none page y.first (y ∷ ys) none (omega arith, from.1, from.2))) (apart_behind a page behind (omega arith) beyond)
    ]

-- areas in order without some pages are in order, and so are joined already
pub without_in_order : (first n : ℕ) (areas : List Area) → 0 < n → AreInOrder areas → AreInOrder (areas_without first n areas)
without_in_order first n areas some order =
    let from = IsFrom-in_order areas order in
    subst AreInOrder (sym (areas_without_parts first n 0 areas from))
    (below_in_order first 0 areas (areas_from (first + n) areas) from order
    (IsFrom-weaker (first + n) (first + 1) (areas_from (first + n) areas) (omega arith) (from_from (first + n) 0 areas from))
    (from_in_order (first + n) 0 areas from order))
