-- Areas one behind another, and areas in order.
use Rattle.std.proofs.Common.{◌≡◌, ℕ, ◌+◌, ◌<◌, ◌≤◌, ◌≢◌, true, false, List, [], ◌∷◌, ◌++◌, refl, sym, ◌∙◌, ap, subst, arith, inl, inr}
use Rattle.std.specs.Prelude.{◌==◌}
use Rattle.std.proofs.lemmas.Bool.{cases_Bool, and_from, eq-eqb, both_ways}
use Rattle.vm_base.specs.FlatMemory.{Area, AreInOrder}
use Rattle.vm_base.specs.FlatStep.{joined, joined_front, is_same_perm}
use Rattle.area_list.proofs.Joining.{joins, both, joins_touches, joins_alike, front_joins, front_apart, perm_is_same}

-- each area has a page and begins at or above the end of the one before it, the first at or above a page
abbrev pub IsFrom : ℕ → List Area → Type 0
IsFrom low [] = Unit {0}
IsFrom low (a ∷ areas) = (low ≤ a.first) × (0 < a.pages) × IsFrom (a.first + a.pages) areas

-- the same, and the last ends at or below another page
abbrev pub IsBetween : ℕ → ℕ → List Area → Type 0
IsBetween low high [] = low ≤ high
IsBetween low high (a ∷ areas) = (low ≤ a.first) × (0 < a.pages) × IsBetween (a.first + a.pages) high areas

-- an area may stand in front of others that are in order
abbrev pub IsApart : Area → List Area → Type 0
IsApart a [] = Unit {0}
IsApart a (b ∷ areas) = (a.first + a.pages ≤ b.first) × (a.first + a.pages ≡ b.first → a.perm ≢ b.perm)

pub order_parts : (a : Area) (areas : List Area) → AreInOrder (a ∷ areas) → (0 < a.pages) × IsApart a areas × AreInOrder areas
order_parts a [] order = (order, tt, tt)
order_parts a (b ∷ areas) order = (order.0, (order.1, order.2), order.3)

pub order_from : (a : Area) (areas : List Area) → 0 < a.pages → IsApart a areas → AreInOrder areas → AreInOrder (a ∷ areas)
order_from a [] some apart order = some
order_from a (b ∷ areas) some apart order = (some, apart.0, apart.1, order)

pub IsFrom-weaker : (low lower : ℕ) (areas : List Area) → lower ≤ low → IsFrom low areas → IsFrom lower areas
IsFrom-weaker low lower [] le from = tt
IsFrom-weaker low lower (a ∷ areas) le from = (omega (arith, from.0), from.1, from.2)

-- areas in order lie one behind another
pub IsFrom-order : (low : ℕ) (areas : List Area) → AreInOrder areas → ((a : Area) (rest : List Area) → areas ≡ a ∷ rest → low ≤ a.first) → IsFrom low areas
IsFrom-order low [] order first = tt
IsFrom-order low (a ∷ []) order first = (first a [] refl, order, tt)
IsFrom-order low (a ∷ b ∷ areas) order first =
    (first a (b ∷ areas) refl, order.0, IsFrom-order (a.first + a.pages) (b ∷ areas) order.3 (λ c rest same. let here : c.first ≡ b.first = cc in omega (arith, order.1)))

pub IsFrom-in_order : (areas : List Area) → AreInOrder areas → IsFrom 0 areas
IsFrom-in_order areas order = IsFrom-order 0 areas order (λ a rest same. omega arith)

pub between_le : (low high : ℕ) (areas : List Area) → IsBetween low high areas → low ≤ high
between_le low high [] between = between
between_le low high (a ∷ areas) between =
    let rest : a.first + a.pages ≤ high = between_le (a.first + a.pages) high areas between.2 in
    omega (arith, between.0)

-- areas up to a page, and areas from it on
pub IsFrom-append : (low high : ℕ) (xs ys : List Area) → IsBetween low high xs → IsFrom high ys → IsFrom low (xs ++ ys)
IsFrom-append low high [] ys between from = IsFrom-weaker high low ys between from
IsFrom-append low high (x ∷ xs) ys between from = (between.0, between.1, IsFrom-append (x.first + x.pages) high xs ys between.2 from)

-- what does not join is apart
apart_from_joins : (x y : Area) → joins x y ≡ false → x.first + x.pages ≡ y.first → x.perm ≢ y.perm
apart_from_joins x y two touches alike =
    both_ways (joins x y) two
    (and_from (x.first + x.pages == y.first) (is_same_perm x.perm y.perm) (eq-eqb (x.first + x.pages) y.first touches)
    (ap (λ perm. is_same_perm x.perm perm) (sym alike) ∙ perm_is_same x.perm))

-- what is apart does not join
pub joins_from_apart : (x y : Area) (ys : List Area) → IsApart x (y ∷ ys) → joins x y ≡ false
joins_from_apart x y ys apart = elim (cases_Bool (joins x y)) [
  | inl one ↦ absurd (apart.1 (joins_touches x y one) (joins_alike x y one))
  | inr two ↦ two
]

both_apart : (x y : Area) (ys : List Area) → joins x y ≡ true → IsApart y ys → IsApart (both x y) ys
both_apart x y [] one apart = tt
both_apart x y (z ∷ ys) one apart =
    let touches : x.first + x.pages ≡ y.first = joins_touches x y one in
    let ends : x.first + (x.pages + y.pages) ≡ y.first + y.pages = omega arith in
    (omega (arith, apart.0), λ here alike. apart.1 (sym ends ∙ here) (sym (joins_alike x y one) ∙ alike))

-- an area in front of areas in order, joined
pub front_in_order : (x : Area) (ys : List Area) → 0 < x.pages → IsFrom (x.first + x.pages) ys → AreInOrder ys → AreInOrder (joined_front x ys)
front_in_order x [] some from order = some
front_in_order x (y ∷ ys) some from order =
    let parts = order_parts y ys order in
    elim (cases_Bool (joins x y)) [
      | inl one ↦ subst AreInOrder (sym (front_joins x y ys one)) (order_from (both x y) ys (omega arith) (both_apart x y ys one parts.1) parts.2)
      | inr two ↦ subst AreInOrder (sym (front_apart x y ys two)) (order_from x (y ∷ ys) some (from.0, apart_from_joins x y two) order)
    ]

pub front_from : (low : ℕ) (x : Area) (ys : List Area) → low ≤ x.first → 0 < x.pages → IsFrom (x.first + x.pages) ys → IsFrom low (joined_front x ys)
front_from low x [] le some from = (le, some, tt)
front_from low x (y ∷ ys) le some from = elim (cases_Bool (joins x y)) [
  | inl one ↦
      let touches : x.first + x.pages ≡ y.first = joins_touches x y one in
      let ends : y.first + y.pages ≡ x.first + (x.pages + y.pages) = omega arith in
      subst (IsFrom low) (sym (front_joins x y ys one)) (le, omega arith, subst (λ end. IsFrom end ys) ends from.2)
  | inr two ↦ subst (IsFrom low) (sym (front_apart x y ys two)) (le, some, from)
]

-- areas one behind another, joined, are in order
pub joined_from : (low : ℕ) (xs : List Area) → IsFrom low xs → IsFrom low (joined xs)
joined_from low [] from = tt
joined_from low (x ∷ xs) from = front_from low x (joined xs) from.0 from.1 (joined_from (x.first + x.pages) xs from.2)

pub joined_in_order : (low : ℕ) (xs : List Area) → IsFrom low xs → AreInOrder (joined xs)
joined_in_order low [] from = tt
joined_in_order low (x ∷ xs) from =
    front_in_order x (joined xs) from.1 (joined_from (x.first + x.pages) xs from.2) (joined_in_order (x.first + x.pages) xs from.2)

-- areas in order are joined already
pub joined_same : (xs : List Area) → AreInOrder xs → joined xs ≡ xs
joined_same [] order = refl
joined_same (x ∷ []) order = refl
joined_same (x ∷ y ∷ ys) order =
    ap (joined_front x) (joined_same (y ∷ ys) order.3) ∙ front_apart x y ys (joins_from_apart x y ys (order.1, order.2))
