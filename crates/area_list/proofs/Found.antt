-- The area at a page, and the lowest page of a range that areas hold or do not.
use Rattle.std.proofs.Common.{◌≡◌, ℕ, ◌+◌, ◌-◌, ◌<◌, ◌≤◌, zero, suc, max, Bool, List, [], ◌∷◌, length, drop, drop-cons, get_or, cond, ltb, leb, not, Some, None, Option, refl, sym, ◌∙◌, ap, subst, arith, inl, inr, true, false}
use Rattle.std.specs.Prelude.{◌&&◌, ◌^◌, is_some, unwrap_or, IfSome}
use Rattle.std.specs.List.Sorted.{IsPartitionedBy, IsPartitionPoint}
use Rattle.std.proofs.lemmas.Bool.{cases_lt, cases_eq, cases_Bool, cond-true, cond-false, lt-ltb, le-ltb, le-leb, leb-true, leb-false, and_from, and_left, and_right, false≢true}
use Rattle.std.proofs.lemmas.List.Elements.{All-head, All-tail}
use Rattle.vm_base.specs.FlatMemory.{Area, holds, area_of}
use Rattle.vm_base.specs.FlatStep.{lowest, taken, outside}
use Rattle.area_list.specs.AreaList.{AreWithin, IsAreaList, IsFound}
use Rattle.area_list.proofs.Order.{IsFrom, IsFrom-in_order}
use Rattle.area_list.proofs.Permissions.{holds_inside, holds_before, holds_behind, holds_parts}

-- ---- the lowest number of a range that passes a test
pub lowest_found : (n : ℕ) (test : ℕ → Bool) (first page : ℕ) → first ≤ page → page < first + n → test page ≡ true → ((q : ℕ) → first ≤ q → q < page → test q ≡ false) → lowest test first n ≡ Some page
lowest_found zero test first page le lt passes fails = absurd (omega arith)
lowest_found (suc n) test first page le lt passes fails = elim (cases_eq first page) [
  | inl here ↦ cond-true (test first) _ _ (ap test here ∙ passes) ∙ ap Some here
  | inr apart ↦ cond-false (test first) _ _ (fails first (omega arith) (omega arith))
      ∙ lowest_found n test (first + 1) page (omega arith) (omega arith) passes (λ q le_q lt_q. fails q (omega arith) lt_q)
]

pub lowest_nowhere : (n : ℕ) (test : ℕ → Bool) (first : ℕ) → ((q : ℕ) → first ≤ q → q < first + n → test q ≡ false) → lowest test first n ≡ None
lowest_nowhere zero test first fails = refl
lowest_nowhere (suc n) test first fails =
    cond-false (test first) _ _ (fails first (omega arith) (omega arith)) ∙ lowest_nowhere n test (first + 1) (λ q le lt. fails q (omega arith) (omega arith))

lowest_same : (n : ℕ) (test other : ℕ → Bool) (first : ℕ) → ((q : ℕ) → first ≤ q → q < first + n → test q ≡ other q) → lowest test first n ≡ lowest other first n
lowest_same zero test other first same = refl
lowest_same (suc n) test other first same =
    ap (λ b. cond b (Some first) (lowest test (first + 1) n)) (same first (omega arith) (omega arith))
    ∙ ap (cond (other first) (Some first)) (lowest_same n test other (first + 1) (λ q le lt. same q (omega arith) (omega arith)))

-- where none passes, each fails
pub fails_below : (n : ℕ) (test : ℕ → Bool) (first : ℕ) → lowest test first n ≡ None → (q : ℕ) → first ≤ q → q < first + n → test q ≡ false
fails_below zero test first none q le lt = absurd (omega arith)
fails_below (suc n) test first none q le lt = elim (cases_Bool (test first)) [
  | inl passes ↦
      let some : lowest test first (suc n) ≡ Some first = cond-true (test first) _ _ passes in
      absurd cc
  | inr fails ↦ elim (cases_eq first q) [
    | inl here ↦ ap test (sym here) ∙ fails
    | inr apart ↦ fails_below n test (first + 1) (sym (cond-false (test first) (Some first) (lowest test (first + 1) n) fails) ∙ none) q (omega arith) (omega arith)
  ]
]

-- ---- areas one behind another
pub area_held : (a : Area) (areas : List Area) (page : ℕ) → holds a page ≡ true → area_of (a ∷ areas) page ≡ Some a
area_held a areas page held = cond-true (holds a page) (Some a) (area_of areas page) held

pub area_passed : (a : Area) (areas : List Area) (page : ℕ) → holds a page ≡ false → area_of (a ∷ areas) page ≡ area_of areas page
area_passed a areas page passed = cond-false (holds a page) (Some a) (area_of areas page) passed

pub no_area_below : (low : ℕ) (areas : List Area) (page : ℕ) → IsFrom low areas → page < low → area_of areas page ≡ None
no_area_below low [] page from lt = refl
no_area_below low (a ∷ areas) page from lt =
    area_passed a areas page (holds_before a page (omega (arith, from.0))) ∙ no_area_below (a.first + a.pages) areas page from.2 (omega (arith, from.0))

-- ---- the lowest page that is taken
-- an area has a page below end and one from first on
abbrev pub meets : ℕ → ℕ → Area → Bool
meets first end area = ltb first (area.first + area.pages) && ltb area.first end

-- the first page of the range in the first area that meets it
abbrev pub first_meeting : ℕ → ℕ → List Area → Option ℕ
first_meeting first end [] = None
first_meeting first end (a ∷ areas) = cond (meets first end a) (Some (max first a.first)) (first_meeting first end areas)

pub first_meeting-taken : (first end low : ℕ) (areas : List Area) → first < end → IsFrom low areas → first_meeting first end areas ≡ taken areas first (end - first)
first_meeting-taken first end low [] some from = sym (lowest_nowhere (end - first) (λ page. is_some (area_of [] page)) first (λ q le lt. refl))
first_meeting-taken first end low (a ∷ areas) some from =
    let test = λ (page : ℕ). is_some (area_of (a ∷ areas) page) in
    let passed : ((q : ℕ) → first ≤ q → q < first + (end - first) → holds a q ≡ false) → meets first end a ≡ false → first_meeting first end (a ∷ areas) ≡ taken (a ∷ areas) first (end - first) =
    λ none apart. cond-false (meets first end a) _ _ apart ∙ first_meeting-taken first end (a.first + a.pages) areas some from.2
    ∙ sym (lowest_same (end - first) test (λ page. is_some (area_of areas page)) first (λ q le lt. ap is_some (area_passed a areas q (none q le lt)))) in
    elim (cases_lt first (a.first + a.pages)) [
      | inl above ↦ elim (cases_lt a.first end) [
        | inl below ↦
            let page = max first a.first in
            cond-true (meets first end a) _ _ (and_from (ltb first (a.first + a.pages)) (ltb a.first end) (lt-ltb first (a.first + a.pages) above) (lt-ltb a.first end below))
            ∙ sym (lowest_found (end - first) test first page (omega arith) (omega (arith, from.1)) (ap is_some (area_held a areas page (holds_inside a page (omega arith) (omega (arith, from.1)))))
            (λ q le lt. ap is_some (no_area_below a.first (a ∷ areas) q (omega arith, from.1, from.2) (omega arith))))
        | inr behind ↦ passed (λ q le lt. holds_before a q (omega arith)) (and_right (ltb first (a.first + a.pages)) (ltb a.first end) (le-ltb a.first end behind))
      ]
      | inr before ↦ passed (λ q le lt. holds_behind a q (omega arith)) (and_left (ltb first (a.first + a.pages)) (ltb a.first end) (le-ltb first (a.first + a.pages) before))
    ]

-- ---- the lowest page outside
-- from a page over the areas that hold the pages reached, to the first that none holds
abbrev pub reached : ℕ → List Area → ℕ
reached page [] = page
reached page (a ∷ areas) = reached (cond (holds a page) (a.first + a.pages) page) areas

reached_held : (page : ℕ) (a : Area) (areas : List Area) → holds a page ≡ true → reached page (a ∷ areas) ≡ reached (a.first + a.pages) areas
reached_held page a areas held = ap (λ p. reached p areas) (cond-true (holds a page) (a.first + a.pages) page held)

reached_passed : (page : ℕ) (a : Area) (areas : List Area) → holds a page ≡ false → reached page (a ∷ areas) ≡ reached page areas
reached_passed page a areas passed = ap (λ p. reached p areas) (cond-false (holds a page) (a.first + a.pages) page passed)

reached_stays : (page low : ℕ) (areas : List Area) → IsFrom low areas → page < low → reached page areas ≡ page
reached_stays page low [] from lt = refl
reached_stays page low (a ∷ areas) from lt =
    reached_passed page a areas (holds_before a page (omega (arith, from.0))) ∙ reached_stays page (a.first + a.pages) areas from.2 (omega (arith, from.0))

-- every page up to a page lies in an area, and that page does not
record Reaches (areas : List Area) (first page : ℕ) : Type 0 where
  pub above : first ≤ page
  pub inside : (q : ℕ) → first ≤ q → q < page → is_some (area_of areas q) ≡ true
  pub outside_then : area_of areas page ≡ None

in_front : (a : Area) (areas : List Area) (q : ℕ) → is_some (area_of areas q) ≡ true → is_some (area_of (a ∷ areas) q) ≡ true
in_front a areas q some = elim (cases_Bool (holds a q)) [
  | inl held ↦ ap is_some (area_held a areas q held)
  | inr passed ↦ ap is_some (area_passed a areas q passed) ∙ some
]

reaches : (first low : ℕ) (areas : List Area) → IsFrom low areas → Reaches areas first (reached first areas)
reaches first low [] from = record { above = omega arith; inside = λ q le lt. absurd (omega arith); outside_then = refl }
reaches first low (a ∷ areas) from = elim (cases_lt first a.first) [
  | inl before ↦
      let stays : reached first (a ∷ areas) ≡ first = reached_stays first a.first (a ∷ areas) (omega arith, from.1, from.2) before in
      subst (Reaches (a ∷ areas) first) (sym stays) (record {
        above = omega arith;
        inside = λ q le lt. absurd (omega arith);
        outside_then = no_area_below a.first (a ∷ areas) first (omega arith, from.1, from.2) before;
      })
  | inr begun ↦ elim (cases_lt first (a.first + a.pages)) [
    | inl held ↦
        let rest = reaches (a.first + a.pages) (a.first + a.pages) areas from.2 in
        subst (Reaches (a ∷ areas) first) (sym (reached_held first a areas (holds_inside a first begun held))) (record {
          above = omega (arith, rest.above);
          inside = λ q le lt. elim (cases_lt q (a.first + a.pages)) [
            | inl here ↦ ap is_some (area_held a areas q (holds_inside a q (omega arith) here))
            | inr later ↦ in_front a areas q (rest.inside q later lt)
          ];
          outside_then = area_passed a areas _ (holds_behind a _ rest.above) ∙ rest.outside_then;
        })
    | inr behind ↦
        let rest = reaches first (a.first + a.pages) areas from.2 in
        subst (Reaches (a ∷ areas) first) (sym (reached_passed first a areas (holds_behind a first behind))) (record {
          above = rest.above;
          inside = λ q le lt. in_front a areas q (rest.inside q le lt);
          outside_then = area_passed a areas _ (holds_behind a _ (omega (arith, rest.above))) ∙ rest.outside_then;
        })
  ]
]

pub outside_reached : (first end low : ℕ) (areas : List Area) → IsFrom low areas → reached first areas < end → outside areas first (end - first) ≡ Some (reached first areas)
outside_reached first end low areas from lt =
    let known = reaches first low areas from in
    lowest_found (end - first) (λ page. not (is_some (area_of areas page))) first (reached first areas) known.above (omega (arith, known.above))
    (ap (λ o. not (is_some o)) known.outside_then) (λ q le below. ap not (known.inside q le below))

pub outside_nowhere : (first end low : ℕ) (areas : List Area) → IsFrom low areas → first < end → end ≤ reached first areas → outside areas first (end - first) ≡ None
outside_nowhere first end low areas from some le =
    let known = reaches first low areas from in
    lowest_nowhere (end - first) (λ page. not (is_some (area_of areas page))) first (λ q above below. ap not (known.inside q above (omega arith)))

-- ---- the area at a page
-- where all areas from a place on begin behind the page
pub no_area_behind : (page low : ℕ) (areas : List Area) → IsFrom low areas → ((i : ℕ) (d : Area) → i < length areas → page < (get_or areas i d).first) → area_of areas page ≡ None
no_area_behind page low [] from later = refl
no_area_behind page low (a ∷ areas) from later = no_area_below a.first (a ∷ areas) page (omega arith, from.1, from.2) (later 0 a (omega arith))

-- the last area that has begun is the one that may hold the page
pub area_at_point : (page low j : ℕ) (areas : List Area) (d : Area) → IsFrom low areas → j < length areas
    → ((i : ℕ) (e : Area) → i < j + 1 → (get_or areas i e).first ≤ page) → ((i : ℕ) (e : Area) → j + 1 ≤ i → i < length areas → page < (get_or areas i e).first)
    → area_of areas page ≡ cond (holds (get_or areas j d) page) (Some (get_or areas j d)) None
area_at_point page low j [] d from inside begun later = absurd (omega arith)
area_at_point page low zero (a ∷ areas) d from inside begun later =
    ap (cond (holds a page) (Some a)) (no_area_behind page (a.first + a.pages) areas from.2 (λ i e lt. later (suc i) e (omega arith) (omega arith)))
area_at_point page low (suc j) (a ∷ []) d from inside begun later = absurd (omega arith)
area_at_point page low (suc j) (a ∷ b ∷ areas) d from inside begun later =
    let reached_b : b.first ≤ page = begun 1 a (omega arith) in
    area_passed a (b ∷ areas) page (holds_behind a page (omega (arith, from.2)))
    ∙ area_at_point page (a.first + a.pages) j (b ∷ areas) d from.2 (omega arith)
    (λ i e lt. begun (suc i) e (omega arith)) (λ i e le lt. later (suc i) e (omega arith) (omega arith))

-- the first area that meets the range, where those before it do not
pub meeting_found : (first end : ℕ) (areas : List Area) (i : ℕ) (d : Area) → i < length areas → first_meeting first end areas ≡ first_meeting first end (drop i areas)
    → first < (get_or areas i d).first + (get_or areas i d).pages → (get_or areas i d).first < end → first_meeting first end areas ≡ Some (max first (get_or areas i d).first)
meeting_found first end areas i d inside so_far above below =
    let a = get_or areas i d in
    so_far ∙ ap (first_meeting first end) (drop-cons areas i d inside)
    ∙ cond-true (meets first end a) _ _ (and_from (ltb first (a.first + a.pages)) (ltb a.first end) (lt-ltb first (a.first + a.pages) above) (lt-ltb a.first end below))

-- areas that have begun at a page stand before those that have not
pub begun_partitioned : (page low : ℕ) (areas : List Area) → IsFrom low areas → IsPartitionedBy (λ (a : Area). leb a.first page) areas
begun_partitioned page low areas from i j d le inside begun =
    let later : (get_or areas i d).first ≤ (get_or areas j d).first = first_rises low areas i j d from le inside in
    le-leb (get_or areas i d).first page (omega (arith, leb-true (get_or areas j d).first page begun))
  where
    above_low : (low : ℕ) (areas : List Area) (j : ℕ) (d : Area) → IsFrom low areas → j < length areas → low ≤ (get_or areas j d).first
    above_low low [] j d from inside = absurd (omega arith)
    above_low low (a ∷ areas) zero d from inside = from.0
    above_low low (a ∷ areas) (suc j) d from inside =
        let rest : a.first + a.pages ≤ (get_or areas j d).first = above_low (a.first + a.pages) areas j d from.2 (omega arith) in
        omega (arith, from.0)

    first_rises : (low : ℕ) (areas : List Area) (i j : ℕ) (d : Area) → IsFrom low areas → i ≤ j → j < length areas → (get_or areas i d).first ≤ (get_or areas j d).first
    first_rises low [] i j d from le inside = absurd (omega arith)
    first_rises low (a ∷ areas) zero zero d from le inside = omega arith
    first_rises low (a ∷ areas) zero (suc j) d from le inside =
        let rest : a.first + a.pages ≤ (get_or areas j d).first = above_low (a.first + a.pages) areas j d from.2 (omega arith) in
        omega arith
    first_rises low (a ∷ areas) (suc i) zero d from le inside = absurd (omega arith)
    first_rises low (a ∷ areas) (suc i) (suc j) d from le inside = first_rises (a.first + a.pages) areas i j d from.2 (omega arith) (omega arith)

-- the area before the partition point, where that is above 0
pub found_before : (page low point : ℕ) (areas : List Area) (d : Area) → IsFrom low areas → (point ≡ 0 → ⊥) → point ≤ length areas
    → IsPartitionPoint (λ a. leb a.first page ≡ true) (λ a. leb a.first page ≡ false) areas point
    → area_of areas page ≡ cond (holds (get_or areas (point - 1) d) page) (Some (get_or areas (point - 1) d)) None
found_before page low point areas d from some bound parted =
    area_at_point page low (point - 1) areas d from (omega (arith, some))
    (λ i e lt. leb-true (get_or areas i e).first page (parted.0 i e (omega arith) (omega (arith, some))))
    (λ i e le lt. leb-false (get_or areas i e).first page (parted.1 i e (omega (arith, some)) lt))

-- ---- what is known of the area that is found

-- the area lies behind a page, as all do
record IsFoundFrom (low : ℕ) (areas : List Area) (page : ℕ) (a : Area) : Type 0 where
  above : low ≤ a.first
  found : IsFound areas page a

found_from : (low : ℕ) (areas : List Area) (page : ℕ) (a : Area) → IsFrom low areas → AreWithin areas → area_of areas page ≡ Some a → IsFoundFrom low areas page a
found_from low [] page a from within is = absurd (false≢true (ap is_some is))
found_from low (b ∷ areas) page a from within is = elim (cases_Bool (holds b page)) [
  | inl held ↦
      let same : b ≡ a = ap (λ o. unwrap_or o b) (sym (area_held b areas page held) ∙ is) in
      let parts : (b.first ≤ page) × (page < b.first + b.pages) = holds_parts b page held in
      subst (IsFoundFrom low (b ∷ areas) page) same (record {
        above = from.0;
        found = record {
          reached = parts.0;
          ahead = parts.1;
          within = All-head (λ area. area.first + area.pages ≤ 2 ^ 36) b areas within;
          all = λ other le lt. area_held b areas other (holds_inside b other le lt);
        };
      })
  | inr passed ↦
      let rest : IsFoundFrom (b.first + b.pages) areas page a =
      found_from (b.first + b.pages) areas page a from.2 (All-tail (λ area. area.first + area.pages ≤ 2 ^ 36) b areas within) (sym (area_passed b areas page passed) ∙ is) in
      record {
        above = omega (arith, rest.above, from.0);
        found = record {
          reached = rest.found.reached;
          ahead = rest.found.ahead;
          within = rest.found.within;
          all = λ other le lt. area_passed b areas other (holds_behind b other (omega (arith, rest.above, le))) ∙ rest.found.all other le lt;
        };
      }
]

pub area_found : (areas : List Area) (page : ℕ) (found : Option Area) → IsAreaList areas → found ≡ area_of areas page → IfSome found (IsFound areas page)
area_found areas page None form is = tt
area_found areas page (Some a) form is = (found_from 0 areas page a (IsFrom-in_order areas form.in_order) form.within (sym is)).found
