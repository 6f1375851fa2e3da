-- Frames given back page after page.
use Rattle.std.proofs.Common.{◌≡◌, ℕ, zero, suc, ◌+◌, ◌<◌, ◌≤◌, List, [], ◌∷◌, ◌++◌, length, replicate, Option, Some, None, refl, sym, ◌∙◌, ap, subst, arith, inl, inr, ◌⊎◌}
use Rattle.std.specs.Prelude.{slice_set, slice_index_or}
use Rattle.std.proofs.lemmas.Bool.{cases_eq, cases_lt}
use Rattle.std.proofs.lemmas.List.{get_or-set_same, get_or-set_other, length-set}
use Rattle.vm_base.specs.Deals.{Deal, Returned, LeadsAlong}
use Rattle.vm_base.specs.Frames.{FrameView}
use Rattle.vm_base.proofs.DealLemmas.{LeadsAlong-append}
use Rattle.kernel_meaning.specs.Leaves.{Versions, version_at}
use Rattle.leaf_cell.specs.Releasing.{AreHome, Releasing, IsReleased, IsLeafReleased}
use Rattle.leaf_cell.proofs.NewCell.{none_is_not_some}
use Rattle.leaf_cell.proofs.PutPage.{one_page, place_room}

pub replicate-both : {X : Type 0} (x : X) (a b : ℕ) → replicate a x ++ replicate b x ≡ replicate (a + b) x
replicate-both x zero b = ap (λ n. replicate n x) zero-sum
  where
    zero-sum : b ≡ zero + b
    zero-sum = omega arith
replicate-both x (suc a) b = ap (λ xs. x ∷ xs) (replicate-both x a b) ∙ ap (λ n. replicate n x) next
  where
    next : suc (a + b) ≡ suc a + b
    next = omega arith

-- no page was looked at
pub releasing-none : {State : Type 0} (goes : State → Deal → State → Type 0) (state : State) (own other : Versions) (frames : List (Option FrameView)) (first : ℕ) → Releasing goes state state own other frames frames first first
releasing-none goes state own other frames first = record {
  count = 0;
  led = refl;
  taken = omega arith;
  room = refl;
  each = λ place. inl refl;
  kept = λ page place named. refl;
  apart = λ page place small home outside. refl;
  gone = λ page place above below. absurd (omega (arith, above, below));
}

module _ {State : Type 0} (goes : State → Deal → State → Type 0) (from middle to : State) (own other : Versions) (old now new : List (Option FrameView)) (first page : ℕ)
    (small : page < 512) (begun : first ≤ page) (size : length old ≡ 1024) (home : AreHome own) (home_too : AreHome other)
    (before : Releasing goes from middle own other old now first page) (step : IsReleased goes middle to (version_at own page) (version_at other page) now new) where
  -- a place is as it was before this page, or is given back by it
  at_step : (q : ℕ) → (slice_index_or new q None ≡ slice_index_or now q None) ⊎ ((q ≡ step.place) × (slice_index_or new q None ≡ None) × (version_at own page ≡ Some q) × (version_at other page ≡ Some q → ⊥))
  at_step q = elim step.frames [
    | inl same ↦ inl (ap (λ fs. slice_index_or fs q None) same)
    | inr set ↦ elim (cases_eq q step.place) [
      | inl here ↦
          let room : step.place < length now = omega (arith, size, before.room, place_room page step.place small (home page step.place set.1).1) in
          inr (
            here,
            ap (λ fs. slice_index_or fs q None) set.0 ∙ ap (λ i. slice_index_or (slice_set now step.place None) i None) here ∙ get_or-set_same now step.place None None room,
            set.1 ∙ ap Some (sym here),
            λ named. set.2 (named ∙ ap Some here),
          )
      | inr apart ↦ inl (ap (λ fs. slice_index_or fs q None) set.0 ∙ get_or-set_other now step.place q None None apart)
    ]
  ]

  pub releasing-more : Releasing goes from to own other old new first (page + 1)
  releasing-more = record {
    count = before.count + step.number;
    led = subst (λ deals. LeadsAlong goes from deals to) (replicate-both Returned before.count step.number)
        (LeadsAlong-append goes (replicate before.count Returned) (replicate step.number Returned) from middle to before.led step.led);
    taken = omega (arith, before.taken, step.taken);
    room = new_room ∙ before.room;
    each = λ q. elim (at_step q) [
      | inl same ↦ elim (before.each q) [ inl e ↦ inl (same ∙ e) | inr e ↦ inr (same ∙ e) ]
      | inr set ↦ inr set.1
    ];
    kept = λ p q named. elim (at_step q) [
      | inl same ↦ same ∙ before.kept p q named
      | inr set ↦ absurd (set.3 (subst (λ i. version_at other i ≡ Some q) (one_page p page q (home_too p q named).0 small (home_too p q named).1 (home page q set.2).1) named))
    ];
    apart = λ p q under is_home outside. elim (at_step q) [
      | inl same ↦ same ∙ before.apart p q under is_home (elim outside [ inl below ↦ inl below | inr above ↦ inr (omega (arith, above)) ])
      | inr set ↦
          let is : p ≡ page = one_page p page q under small is_home (home page q set.2).1 in
          absurd (elim outside [ inl below ↦ omega (arith, below, is, begun) | inr above ↦ omega (arith, above, is) ])
    ];
    gone = λ p q above below named unnamed. elim (cases_lt p page) [
      | inl earlier ↦ elim (at_step q) [
        | inl same ↦ same ∙ before.gone p q above earlier named unnamed
        | inr set ↦ set.1
      ]
      | inr here ↦
          let is : p ≡ page = omega (arith, below, here) in
          let own_here : version_at own page ≡ Some q = ap (version_at own) (sym is) ∙ named in
          let room : q < length now = omega (arith, size, before.room, place_room page q small (home page q own_here).1) in
          ap (λ fs. slice_index_or fs q None) (step.gone q own_here (λ o. unnamed (ap (version_at other) is ∙ o))) ∙ get_or-set_same now q None None room
    ];
  }
    where
      new_room : length new ≡ length now
      new_room = elim step.frames [
        | inl same ↦ ap length same
        | inr set ↦ ap length set.0 ∙ length-set now step.place None
      ]

-- the places of a page under other words for them
pub released-as : {State : Type 0} (goes : State → Deal → State → Type 0) (from to : State) (named named_too other other_too : Option ℕ) (old new : List (Option FrameView))
    → named ≡ named_too → other ≡ other_too → IsReleased goes from to named other old new → IsReleased goes from to named_too other_too old new
released-as goes from to named named_too other other_too old new is is_too released =
    subst (λ n. IsReleased goes from to n other_too old new) is (subst (λ o. IsReleased goes from to named o old new) is_too released)

-- the other table names the same place: nothing is given back
pub not-released : {State : Type 0} (goes : State → Deal → State → Type 0) (state : State) (named other : Option ℕ) (frames : List (Option FrameView)) (place : ℕ)
    → named ≡ Some place → other ≡ Some place → IsReleased goes state state named other frames frames
not-released goes state named other frames place is is_too = record {
  place = place;
  number = 0;
  led = refl;
  taken = omega arith;
  frames = inl refl;
  gone = λ q own_q unnamed. absurd (unnamed (is_too ∙ sym is ∙ own_q));
}

pub not-named : {State : Type 0} (goes : State → Deal → State → Type 0) (state : State) (named other : Option ℕ)
    (frames : List (Option FrameView)) → named ≡ None → IsReleased goes state state named other frames frames
not-named goes state named other frames none = record {
  place = 0;
  number = 0;
  led = refl;
  taken = omega arith;
  frames = inl refl;
  gone = λ q own_q unnamed. none_is_not_some named q none own_q;
}

-- the pages of a table, and then the table itself
pub leaf-released : {State : Type 0} (goes : State → Deal → State → Type 0) (from middle to : State) (own other : Versions) (old new : List (Option FrameView)) → AreHome own
    → Releasing goes from middle own other old new 0 512 → goes middle Returned to
    → IsLeafReleased goes from to own other 1 old new
leaf-released goes from middle to own other old new home pages table = record {
  count = pages.count + 1;
  led = subst (λ deals. LeadsAlong goes from deals to) (replicate-both Returned pages.count 1)
      (LeadsAlong-append goes (replicate pages.count Returned) (Returned ∷ []) from middle to pages.led (to, (table, refl)));
  taken = omega (arith, pages.taken);
  room = pages.room;
  each = pages.each;
  kept = pages.kept;
  gone = λ page place named unnamed. pages.gone page place (omega arith) (home page place named).0 named unnamed;
}

-- a leaf without a table
pub leaf-kept : {State : Type 0} (goes : State → Deal → State → Type 0) (state : State) (own other : Versions) (frames : List (Option FrameView))
    → ((page : ℕ) → version_at own page ≡ None) → IsLeafReleased goes state state own other 0 frames frames
leaf-kept goes state own other frames none = record {
  count = 0;
  led = refl;
  taken = omega arith;
  room = refl;
  each = λ place. inl refl;
  kept = λ page place named. refl;
  gone = λ page place named. none_is_not_some (version_at own page) place (none page) named;
}
