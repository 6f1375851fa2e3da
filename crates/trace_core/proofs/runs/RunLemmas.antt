-- Runs of events that go on, and what a supply has to do with their state.
use Rattle.std.proofs.Common.{◌≡◌, ℕ, ◌+◌, ◌<◌, List, [], ◌∷◌, ◌++◌, refl, sym, ◌∙◌, ap, subst, arith}
use Rattle.std.specs.Prelude.{Some}
use Rattle.std.proofs.lemmas.List.{append-nil, append_assoc}
use Rattle.vm_base.specs.Deals.{Deal}
use Rattle.trace_events.specs.declared.event.Event.{Event}
use Rattle.trace_events.specs.declared.outcome.Outcome.{Outcome}
use Rattle.kernel_meaning.specs.RefusedRequests.{Request}
use Rattle.trace_core.specs.Answering.{pending_of}
use Rattle.trace_core.specs.KernelState.{Machine, KernelState}
use Rattle.trace_core.specs.RunMeaning.{IsEvent, event_requests, IsRunFrom}

-- no event is a run
pub run-empty : (machine : Machine) (state : KernelState) → IsRunFrom machine state [] [] [] state
run-empty machine state = (refl, refl)

-- a run goes on by one event
pub run-push : (machine : Machine) (events : List Event) (outcomes : List Outcome) (requests : List Request) (state middle after : KernelState) (event : Event) (deals : List Deal) (outcome : Outcome)
    → IsRunFrom machine state events outcomes requests middle → IsEvent machine middle event deals outcome after
    → IsRunFrom machine state (events ++ event ∷ []) (outcomes ++ outcome ∷ []) (requests ++ event_requests middle event deals) after
run-push machine [] [] requests state middle after event deals outcome run here = (
  deals,
  (
    after,
    (
      [],
      (
        subst (λ state. IsEvent machine state event deals outcome after) run.1 here,
        (
          ap (λ front. front ++ event_requests middle event deals) run.0
              ∙ ap (λ state. event_requests state event deals) run.1 ∙ sym (append-nil (event_requests state event deals)),
          (refl, refl),
        ),
      ),
    ),
  ),
)
run-push machine [] (first ∷ outcomes) requests state middle after event deals outcome run here = absurd run
run-push machine (first ∷ events) [] requests state middle after event deals outcome run here = absurd run
run-push machine (first ∷ events) (answer ∷ outcomes) requests state middle after event deals outcome run here =
    let made = run.0 in
    let next = run.1.0 in
    let later = run.1.1.0 in
    let rest = run.1.1.1.1.1 in (
      made,
      (
        next,
        (
          later ++ event_requests middle event deals,
          (
            run.1.1.1.0,
            (
              ap (λ front. front ++ event_requests middle event deals) run.1.1.1.1.0 ∙ append_assoc (event_requests state first made) later (event_requests middle event deals),
              run-push machine events outcomes later next middle after event deals outcome rest here,
            ),
          ),
        ),
      ),
    )

-- a refuse line names a request that follows
pub pending_of-refuse : (made nth : ℕ) → 0 < nth → Some nth ≡ pending_of (Some (made + nth)) made
pending_of-refuse made nth some = grind arith
