-- A kernel that tells how many frames are enough has no policy, and gets none.
use Rattle.std.proofs.Common.{◌≡◌, ℕ, List, [], map, length, Option, Some, Result, Ok, Err, refl, sym, ◌∙◌, ap, subst, arith, eqb}
use Rattle.std.specs.Prelude.{Bool, true, IsTrue, ◌==◌, is_some, IfOk, OnErr}
use Rattle.std.specs.Option.{ForSome}
use Rattle.std.specs.Coded.{Coded-set, coded_bool}
use Rattle.std.proofs.Math.Logic.{∥∥₁_elim}
use Rattle.std.proofs.lemmas.Bool.{false≢true}
use Rattle.std.proofs.lemmas.Bool.Decides.{nat_tests}
use Rattle.std.proofs.lemmas.List.{length-map}
use Rattle.frame_pool.specs.Policies.{PolicyView}
use Rattle.kernel_meaning.specs.Requests.{Answer}
use Rattle.page_tables.specs.declared.tables.PageTables.{PageTables}
use Rattle.trace_events.specs.declared.event.Event.{Event}
use Rattle.trace_events.specs.declared.event.Event.TheVariants.{Map, Unmap, Protect, Read, Write, Fill, Fork, Copy, Drop, SnapRead, Frames, ListAreas, Refuse}
use Rattle.trace_events.specs.declared.outcome.Outcome.{Outcome}
use Rattle.trace_core.specs.SupplyState.{SupplyState}
use Rattle.trace_core.specs.Answering.{LeadOn}
use Rattle.trace_core.specs.KernelState.{Machine, KernelState}
use Rattle.trace_core.specs.KernelStanding.{KernelParts, KernelStands, IsKernel, EventRan}
use Rattle.trace_core.specs.EventMeaning.{EventEnd}
use Rattle.trace_core.specs.KernelRun.{Ran, EventFollows}
use Rattle.trace_core.specs.KernelSeen.{KernelNotes, IsNoted, enough_behind}
use Rattle.trace_core.proofs.supplies.AnswerLemmas.{no_request_has_led, deals_lead_on}

true-prop : (b : Bool) → IsProp (IsTrue b)
true-prop b = Coded-set coded_bool b true

-- the policies of a pool that had none
abbrev StaysEmpty : SupplyState → SupplyState → Type 0
StaysEmpty old new = IsTrue old.policies.is_empty → IsTrue new.policies.is_empty

-- behind an event of a step there is none
pub step-empty : (old new : KernelParts) (event : Event) {E : Type 0} (result : Result Outcome E) → IfOk result (Ran old new event) → OnErr result (new ≡ old) → ∥ IsKernel old ∥₁ → StaysEmpty old.supply new.supply
step-empty old new event (Err why) ran kept known empty = subst (λ parts. IsTrue parts.supply.policies.is_empty) (sym kept) empty
step-empty old new event (Ok outcome) ran kept known empty = ∥∥₁_elim known (true-prop new.supply.policies.is_empty) (λ it.
    let follows : EventFollows old new it.0 it.1.0 event outcome = ran it.0 it.1.0 it.1.1 in
    (follows.led old.supply.policies [] (no_request_has_led it.0.frames old.supply.policies)).is_empty empty)

-- nor behind a call of the parent
pub ran-empty : (old new : KernelParts) (outcome : Outcome) (end : (machine : Machine) (state : KernelState) → List Answer → EventEnd)
    → ((machine : Machine) (state : KernelState) → KernelStands old machine state → EventRan old new machine (end machine state) outcome) → ∥ IsKernel old ∥₁ → StaysEmpty old.supply new.supply
ran-empty old new outcome end ran known empty = ∥∥₁_elim known (true-prop new.supply.policies.is_empty) (λ it.
    let its : EventRan old new it.0 (end it.0 it.1.0) outcome = ran it.0 it.1.0 it.1.1 in
    let on : LeadOn old.supply.policies it.1.0.named it.1.0.made [] old.supply its.deals new.supply =
    deals_lead_on old.supply.policies it.1.0.named it.1.0.made [] old.supply new.supply its.deals it.1.1.supply.pending (no_request_has_led old.supply.made old.supply.policies) its.led in
    on.led.is_empty empty)

zero-told : (n : ℕ) → IsTrue (n == 0) → n ≡ 0
zero-told n zero-is = (let t : eqb n 0 ≡ true = zero-is in grind (arith, nat_tests))

-- what is told behind an event was told before it
told-before : (event : Event) (enough : Option ℕ) (value : ℕ) → enough_behind event enough ≡ Some value → enough ≡ Some value
told-before (Refuse nth) enough value told = absurd (false≢true (ap is_some told))
told-before (Map first n perm) enough value told = told
told-before (Unmap first n) enough value told = told
told-before (Protect first n perm) enough value told = told
told-before (Read address n) enough value told = told
told-before (Write address bytes) enough value told = told
told-before (Fill address n byte) enough value told = told
told-before (Fork n mode) enough value told = told
told-before (Copy n cell) enough value told = told
told-before (Drop n) enough value told = told
told-before (SnapRead n address size) enough value told = told
told-before Frames enough value told = told
told-before ListAreas enough value told = told

pub step-told : (event : Event) {E : Type 0} (result : Result Outcome E) (before tables : PageTables) (refused : ℕ) (notes later : KernelNotes)
    → IfOk result (λ outcome. IsNoted before event outcome tables refused notes later) → OnErr result (later ≡ notes) → (value : ℕ) → later.enough ≡ Some value → notes.enough ≡ Some value
step-told event (Ok outcome) before tables refused notes later noted same value told = told-before event notes.enough value (sym noted.enough ∙ told)
step-told event (Err why) before tables refused notes later noted same value told = ap (λ notes. notes.enough) (sym same) ∙ told

-- so it has none
pub plain-still : {A : Type 0} (f : A → PolicyView) (before after : List A) (enough later : Option ℕ) → (IsTrue (length (map f before) == 0) → IsTrue (length (map f after) == 0))
    → ((value : ℕ) → later ≡ Some value → enough ≡ Some value) → ForSome enough (λ enough. length before ≡ 0) → ForSome later (λ enough. length after ≡ 0)
plain-still f before after enough later still told plain = λ value is.
    let none : length (map f before) ≡ 0 = length-map before f ∙ plain value (told value is) in
    sym (length-map after f) ∙ zero-told (length (map f after)) (still (subst (λ n. IsTrue (n == 0)) (sym none) refl))

-- the policies of a kernel that tells it are none
pub plain-empty : {A : Type 0} (f : A → PolicyView) (items : List A) (enough : Option ℕ) → ForSome enough (λ enough. length items ≡ 0) → ForSome enough (λ enough. IsTrue (length (map f items) == 0))
plain-empty f items enough plain = λ value is. subst (λ n. IsTrue (n == 0)) (sym (length-map items f ∙ plain value is)) refl
