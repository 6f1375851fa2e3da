-- The number of the last fork, behind each event.
use Rattle.std.proofs.Common.{◌≡◌, ℕ, Bool, true, false, cond, List, Option, Some, None, Result, Ok, Err, refl, sym, ◌∙◌, ap}
use Rattle.std.specs.Prelude.{IfOk, nat_le}
use Rattle.std.specs.FinMap.{len}
use Rattle.std.proofs.Math.Logic.{∥∥₁_elim}
use Rattle.vm_base.specs.declared.fork_mode.Mode.{Mode}
use Rattle.kernel_meaning.specs.Requests.{Answer, answers_of}
use Rattle.kernel_meaning.specs.EventRequests.{FrameRefusal, Progress, snapshot_forked}
use Rattle.trace_events.specs.declared.event.Event.{Event}
use Rattle.trace_events.specs.declared.event.Event.TheVariants.{Map, Unmap, Protect, Read, Write, Fill, Fork, Copy, Drop, SnapRead, Frames, ListAreas, Refuse}
use Rattle.trace_events.specs.declared.outcome.Outcome.{Outcome}
use Rattle.trace_core.specs.KernelState.{Machine, KernelState}
use Rattle.trace_core.specs.EventMeaning.{EventEnd, begun, fork_answered, only_answers, event_end}
use Rattle.trace_events.specs.declared.outcome.Outcome.TheVariants.{TooMany}
use Rattle.trace_core.specs.KernelStanding.{KernelParts, KernelStands, IsKernel}
use Rattle.trace_core.specs.KernelRun.{Ran, last_behind}
use Rattle.trace_core.proofs.memories.EventSoundness.{event-kept}
use Rattle.trace_core.proofs.memories.ClauseProps.{number-prop}

module _ (machine : Machine) (state : KernelState) (answers : List Answer) where
  -- this is the last number behind an event that ends so
  abbrev LastIs : Event → EventEnd → Type 0
  LastIs event end = end.after.world.last ≡ last_behind event end.outcome state.world.last

  forked-last : (n : ℕ) (mode : Mode) (refused : Option FrameRefusal) (progress : Progress) → LastIs (Fork n mode) (fork_answered state n refused progress)
  forked-last n mode None progress = refl
  forked-last n mode (Some refusal) progress = refl

  picked-last : (event : Event) (b : Bool) (one other : EventEnd) → LastIs event one → LastIs event other → LastIs event (cond b one other)
  picked-last event true one other first second = first
  picked-last event false one other first second = second

  -- an event that forks nothing leaves it
  still-last : (event : Event) → ((n : ℕ) (mode : Mode) → event ≡ Fork n mode → ⊥) → (event_end machine state answers event).after.world.last ≡ state.world.last
  still-last event other = event-kept (λ snapshots last. last ≡ state.world.last) machine state answers refl (λ n. refl) event other

  event-last : (event : Event) → LastIs event (event_end machine state answers event)
  event-last (Fork n mode) =
      let progress : Progress = snapshot_forked n mode (begun state answers) in
      picked-last (Fork n mode) (nat_le machine.limit (len state.world.snapshots)) (only_answers state TooMany) (fork_answered state n progress.refused progress) refl (forked-last n mode progress.refused progress)
  event-last (Map first n perm) = still-last (Map first n perm) (λ m mode e. absurd cc)
  event-last (Unmap first n) = still-last (Unmap first n) (λ m mode e. absurd cc)
  event-last (Protect first n perm) = still-last (Protect first n perm) (λ m mode e. absurd cc)
  event-last (Read address n) = refl
  event-last (Write address bytes) = still-last (Write address bytes) (λ m mode e. absurd cc)
  event-last (Fill address n byte) = still-last (Fill address n byte) (λ m mode e. absurd cc)
  event-last (Copy n cell) = still-last (Copy n cell) (λ m mode e. absurd cc)
  event-last (Drop n) = still-last (Drop n) (λ m mode e. absurd cc)
  event-last (SnapRead n address size) = refl
  event-last Frames = refl
  event-last ListAreas = refl
  event-last (Refuse nth) = refl

-- what an event on a kernel leaves as the last number
ran-last : (from new : KernelParts) (event : Event) (outcome : Outcome) → Ran from new event outcome → ∥ IsKernel from ∥₁ → new.last ≡ last_behind event outcome from.last
ran-last from new event outcome ran known = ∥∥₁_elim known (number-prop _ _) (λ it. follow it.0 it.1.0 it.1.1)
  where
    follow : (machine : Machine) (state : KernelState) → KernelStands from machine state → new.last ≡ last_behind event outcome from.last
    follow machine state st =
        let follows = ran machine state st in
        sym follows.stands.last
        ∙ ap (λ (after : KernelState). after.world.last) (sym follows.is_event.leaves)
        ∙ event-last machine state (answers_of follows.deals) event
        ∙ ap (λ told. last_behind event told state.world.last) follows.is_event.answers
        ∙ ap (last_behind event outcome) st.last

pub last-if-ok : {E : Type 0} (from new : KernelParts) (event : Event) (result : Result Outcome E) → IfOk result (Ran from new event) → ∥ IsKernel from ∥₁
    → IfOk result (λ outcome. new.last ≡ last_behind event outcome from.last)
last-if-ok from new event (Ok outcome) ran known = ran-last from new event outcome ran known
last-if-ok from new event (Err none) ran known = tt
