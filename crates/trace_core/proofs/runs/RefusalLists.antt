-- A run is told by the list of its refused requests, and by that list there is one run.
use Rattle.std.proofs.Common.{◌≡◌, ℕ, suc, ◌+◌, ◌<◌, ◌≤◌, true, false, List, [], ◌∷◌, ◌++◌, length, Option, cond, refl, sym, ◌∙◌, ap, subst, arith}
use Rattle.std.specs.Prelude.{◌-◌, ◌||◌}
use Rattle.std.proofs.lemmas.Bool.{ne_eqb, eq-eqb}
use Rattle.vm_base.specs.declared.frame_request.Asker.{Asker}
use Rattle.vm_base.specs.Deals.{Deal, Granted, Denied, Returned}
use Rattle.kernel_meaning.specs.Requests.{Answer, Yes, No, answers_of}
use Rattle.kernel_meaning.specs.RefusedRequests.{Request, is_in, answer_to, count_behind, answers_behind, count_after, requests_of}
use Rattle.trace_events.specs.declared.event.Event.{Event}
use Rattle.trace_events.specs.declared.event.Event.TheVariants.{Map, Unmap, Protect, Read, Write, Fill, Fork, Copy, Drop, SnapRead, Frames, ListAreas, Refuse}
use Rattle.trace_events.specs.declared.outcome.Outcome.{Outcome}
use Rattle.vm_base.specs.Counts.{next_count}
use Rattle.kernel_meaning.specs.FrameLaw.{held_frames}
use Rattle.trace_core.specs.Answering.{AreCounted, made_after}
use Rattle.trace_core.specs.KernelState.{Machine, KernelState}
use Rattle.trace_core.specs.EventMeaning.{event_end, asker_of, refused_so_far}
use Rattle.trace_core.specs.RunMeaning.{IsEvent, event_requests, IsRunFrom, numbers_refused, EndsBy, IsRunBy, IsToldByRefused, IsOneByRefused}
use Rattle.trace_core.proofs.runs.EventCounts.{parent_counts, copy_counts}

-- ---- a list says of requests whether they are refused

abbrev Says : List ℕ → List Request → Type 0
Says refused [] = Unit {0}
Says refused (request ∷ requests) = (is_in refused request.number ≡ request.is_refused) × Says refused requests

says-split : (refused : List ℕ) (front back : List Request) → Says refused (front ++ back) → Says refused front × Says refused back
says-split refused [] back says = (tt, says)
says-split refused (request ∷ front) back says =
    let both = says-split refused front back says.1 in
    ((says.0, both.0), both.1)

-- the requests among deals are refused just where the deals say so
abbrev Agrees : List ℕ → ℕ → List Deal → Type 0
Agrees refused made [] = Unit {0}
Agrees refused made (Granted want ∷ deals) = (is_in refused (made + 1) ≡ false) × Agrees refused (made + 1) deals
Agrees refused made (Denied want at ∷ deals) = (is_in refused (made + 1) ≡ true) × Agrees refused (made + 1) deals
Agrees refused made (Returned ∷ deals) = Agrees refused made deals

says-agrees : (refused : List ℕ) (asker : Asker) (named : Option ℕ) (made out : ℕ) (deals : List Deal) → Says refused (requests_of asker named made out deals) → Agrees refused made deals
says-agrees refused asker named made out [] says = tt
says-agrees refused asker named made out (Granted want ∷ deals) says = (says.0, says-agrees refused asker named (made + 1) (out + 1) deals says.1)
says-agrees refused asker named made out (Denied want at ∷ deals) says = (says.0, says-agrees refused asker named (made + 1) out deals says.1)
says-agrees refused asker named made out (Returned ∷ deals) says = says-agrees refused asker named made (out - 1) deals says

-- then the answers by the list begin with those of the deals
answers-agree : (refused : List ℕ) (made count : ℕ) (deals : List Deal) (n : ℕ) → AreCounted count deals → Agrees refused made deals
    → answers_behind refused made count (length (answers_of deals) + n) ≡ answers_of deals ++ answers_behind refused (made_after made deals) (count_after count deals) n
answers-agree refused made count [] n counted agrees = ap (answers_behind refused made count) (omega arith)
answers-agree refused made count (Granted want ∷ deals) n counted agrees =
    let one : suc (length (answers_of deals)) + n ≡ suc (length (answers_of deals) + n) = omega arith in
    ap (answers_behind refused made count) one
    ∙ ap (λ b. answer_to b count ∷ answers_behind refused (made + 1) (count_behind b count) (length (answers_of deals) + n)) agrees.0
    ∙ ap (λ answers. Yes ∷ answers) (answers-agree refused (made + 1) count deals n counted agrees.1)
answers-agree refused made count (Denied want at ∷ deals) n counted agrees =
    let one : suc (length (answers_of deals)) + n ≡ suc (length (answers_of deals) + n) = omega arith in
    ap (answers_behind refused made count) one
    ∙ ap (λ b. answer_to b count ∷ answers_behind refused (made + 1) (count_behind b count) (length (answers_of deals) + n)) agrees.0
    ∙ (λ i. No (sym counted.0 i) ∷ answers-agree refused (made + 1) (next_count count) deals n counted.1 agrees.1 i)
answers-agree refused made count (Returned ∷ deals) n counted agrees = answers-agree refused made count deals n counted agrees

run-by : (machine : Machine) (refused : List ℕ) (events : List Event) (outcomes : List Outcome) (requests : List Request) (state after : KernelState)
    → IsRunFrom machine state events outcomes requests after → Says refused requests → IsRunBy machine state refused events outcomes after
run-by machine refused [] [] requests state after run says = run.1
run-by machine refused [] (outcome ∷ outcomes) requests state after run says = absurd run
run-by machine refused (event ∷ events) [] requests state after run says = absurd run
run-by machine refused (event ∷ events) (outcome ∷ outcomes) requests state after run says =
    let deals : List Deal = run.0 in
    let next : KernelState = run.1.0 in
    let later : List Request = run.1.1.0 in
    let here : IsEvent machine state event deals outcome next = run.1.1.1.0 in
    let both = says-split refused (event_requests state event deals) later (subst (Says refused) run.1.1.1.1.0 says) in
    let count : ℕ = refused_so_far state.world (asker_of event) in
    let same : (n : ℕ) → answers_behind refused state.made count (length (answers_of deals) + n) ≡ answers_of deals ++ answers_behind refused (made_after state.made deals) (count_after count deals) n =
    λ n. answers-agree refused state.made count deals n here.counted (says-agrees refused (asker_of event) state.named state.made (held_frames state.leaves) deals both.0) in
    let ends : (n : ℕ) → event_end machine state (answers_behind refused state.made count (length (answers_of deals) + n)) event ≡ record { outcome = outcome; deals = deals; after = next } =
    λ n. ap (λ answers. event_end machine state answers event) (same n) ∙ here.further (answers_behind refused (made_after state.made deals) (count_after count deals) n) in (
      next,
      (
        record { asked = length (answers_of deals); ends = λ n. (ap (λ e. e.outcome) (ends n), ap (λ e. e.after) (ends n)) },
        run-by machine refused events outcomes later next after run.1.1.1.1.1 both.1,
      ),
    )

-- ---- the requests of a run are numbered one after another

abbrev Rising : ℕ → List Request → Type 0
Rising lower [] = Unit {0}
Rising lower (request ∷ requests) = (request.number ≡ lower + 1) × Rising (lower + 1) requests

rising-of : (asker : Asker) (named : Option ℕ) (made out : ℕ) (deals : List Deal) (later : List Request) → Rising (made_after made deals) later → Rising made (requests_of asker named made out deals ++ later)
rising-of asker named made out [] later rising = rising
rising-of asker named made out (Granted want ∷ deals) later rising = (refl, rising-of asker named (made + 1) (out + 1) deals later rising)
rising-of asker named made out (Denied want at ∷ deals) later rising = (refl, rising-of asker named (made + 1) out deals later rising)
rising-of asker named made out (Returned ∷ deals) later rising = rising-of asker named made (out - 1) deals later rising

-- behind an event as many requests were made as its deals say
event-made : (machine : Machine) (state : KernelState) (event : Event) (answers : List Answer) → (event_end machine state answers event).after.made ≡ made_after state.made (event_end machine state answers event).deals
event-made machine state (Map first n perm) answers = (parent_counts machine state answers (Map first n perm) refl refl).made
event-made machine state (Unmap first n) answers = (parent_counts machine state answers (Unmap first n) refl refl).made
event-made machine state (Protect first n perm) answers = (parent_counts machine state answers (Protect first n perm) refl refl).made
event-made machine state (Read address n) answers = refl
event-made machine state (Write address bytes) answers = (parent_counts machine state answers (Write address bytes) refl refl).made
event-made machine state (Fill address n byte) answers = (parent_counts machine state answers (Fill address n byte) refl refl).made
event-made machine state (Fork n mode) answers = (parent_counts machine state answers (Fork n mode) refl refl).made
event-made machine state (Copy n cell) answers = (copy_counts state answers n cell).made
event-made machine state (Drop n) answers = (parent_counts machine state answers (Drop n) refl refl).made
event-made machine state (SnapRead n address len) answers = refl
event-made machine state Frames answers = refl
event-made machine state ListAreas answers = refl
event-made machine state (Refuse nth) answers = refl

run-rising : (machine : Machine) (events : List Event) (outcomes : List Outcome) (requests : List Request) (state after : KernelState)
    → IsRunFrom machine state events outcomes requests after → Rising state.made requests
run-rising machine [] [] requests state after run = subst (Rising state.made) (sym run.0) tt
run-rising machine [] (outcome ∷ outcomes) requests state after run = absurd run
run-rising machine (event ∷ events) [] requests state after run = absurd run
run-rising machine (event ∷ events) (outcome ∷ outcomes) requests state after run =
    let deals : List Deal = run.0 in
    let next : KernelState = run.1.0 in
    let here : IsEvent machine state event deals outcome next = run.1.1.1.0 in
    let made : next.made ≡ made_after state.made deals = sym (ap (λ s. s.made) here.leaves) ∙ event-made machine state event (answers_of deals) ∙ ap (made_after state.made) here.deals_are in
    subst (Rising state.made) (sym run.1.1.1.1.0)
    (rising-of (asker_of event) state.named state.made (held_frames state.leaves) deals run.1.1.0
    (subst (λ lower. Rising lower run.1.1.0) made (run-rising machine events outcomes run.1.1.0 next after run.1.1.1.1.1)))

-- a number is passed over where another request has it
skips : (request : Request) (requests : List Request) (k : ℕ) → (request.number ≡ k → ⊥) → is_in (numbers_refused (request ∷ requests)) k ≡ is_in (numbers_refused requests) k
skips request requests k other = elim request.is_refused as (λ b. is_in (cond b (request.number ∷ numbers_refused requests) (numbers_refused requests)) k ≡ is_in (numbers_refused requests) k) [
  | true ↦ ap (λ b. b || is_in (numbers_refused requests) k) (ne_eqb request.number k other)
  | false ↦ refl
]

none-below : (lower : ℕ) (requests : List Request) → Rising lower requests → (k : ℕ) → k ≤ lower → is_in (numbers_refused requests) k ≡ false
none-below lower [] rising k low = refl
none-below lower (request ∷ requests) rising k low =
    skips request requests k (λ e. omega (arith, e, rising.0, low)) ∙ none-below (lower + 1) requests rising.1 k (omega (arith, low))

-- the first request is in the list just where it was refused
first-said : (lower : ℕ) (request : Request) (requests : List Request) → request.number ≡ lower + 1 → Rising (lower + 1) requests
    → is_in (numbers_refused (request ∷ requests)) request.number ≡ request.is_refused
first-said lower request requests first rising = elim request.is_refused as (λ b. is_in (cond b (request.number ∷ numbers_refused requests) (numbers_refused requests)) request.number ≡ b) [
  | true ↦ ap (λ b. b || is_in (numbers_refused requests) request.number) (eq-eqb request.number request.number refl)
  | false ↦ none-below (lower + 1) requests rising request.number (omega (arith, first))
]

says-of : (refused : List ℕ) (lower : ℕ) (requests : List Request) → Rising lower requests → ((k : ℕ) → lower < k → is_in refused k ≡ is_in (numbers_refused requests) k) → Says refused requests
says-of refused lower [] rising alike = tt
says-of refused lower (request ∷ requests) rising alike = (
  alike request.number (omega (arith, rising.0)) ∙ first-said lower request requests rising.0 rising.1,
  says-of refused (lower + 1) requests rising.1 (λ k high. alike k (omega (arith, high)) ∙ skips request requests k (λ e. omega (arith, e, rising.0, high))),
)

pub told-by-refused : IsToldByRefused
told-by-refused machine last policies events outcomes refused after run =
    let rising = run-rising machine events outcomes run.requests _ after run.run in
    run-by machine refused events outcomes run.requests _ after run.run
    (subst (λ refused. Says refused run.requests) (sym run.numbers) (says-of (numbers_refused run.requests) 0 run.requests rising (λ k high. refl)))

-- ---- one run for one list

same-ends : (machine : Machine) (state : KernelState) (refused : List ℕ) (event : Event) (outcome other : Outcome) (after next : KernelState)
    → EndsBy machine state refused event outcome after → EndsBy machine state refused event other next → (outcome ≡ other) × (after ≡ next)
same-ends machine state refused event outcome other after next one two =
    let sum : one.asked + two.asked ≡ two.asked + one.asked = omega arith in
    let a = one.ends two.asked in
    let b = two.ends one.asked in
    let swap = ap (λ n. event_end machine state (answers_behind refused state.made (refused_so_far state.world (asker_of event)) n) event) sum in
    (sym a.0 ∙ ap (λ e. e.outcome) swap ∙ b.0, sym a.1 ∙ ap (λ e. e.after) swap ∙ b.1)

pub one-by-refused : IsOneByRefused
one-by-refused machine state refused [] [] [] after other one two = (refl, one ∙ sym two)
one-by-refused machine state refused [] [] (outcome ∷ others) after other one two = absurd two
one-by-refused machine state refused [] (outcome ∷ outcomes) others after other one two = absurd one
one-by-refused machine state refused (event ∷ events) [] others after other one two = absurd one
one-by-refused machine state refused (event ∷ events) (outcome ∷ outcomes) [] after other one two = absurd two
one-by-refused machine state refused (event ∷ events) (outcome ∷ outcomes) (told ∷ others) after other one two =
    let here = same-ends machine state refused event outcome told one.0 two.0 one.1.0 two.1.0 in
    let rest = one-by-refused machine two.0 refused events outcomes others after other (subst (λ s. IsRunBy machine s refused events outcomes after) here.1 one.1.1) two.1.1 in
    (λ i. here.0 i ∷ rest.0 i, rest.1)
