-- What a kernel that is sound answers as a memory where areas change, by the answer of its parts.
use Rattle.std.proofs.Common.{◌≡◌, ◌≢◌, ℕ, ◌+◌, ◌-◌, ◌^◌, ◌<◌, ◌≤◌, [], Result, Ok, Err, sym, ◌∙◌, ap, subst, refl}
use Rattle.std.specs.Prelude.{OnOk, OnErr, IfErr}
use Rattle.std.proofs.lemmas.Bool.{false≢true}
use Rattle.std.proofs.Math.Logic.{∥∥₁_elim, ∥∥₁_map}
use Rattle.vm_base.specs.declared.permission.Perm.{Perm}
use Rattle.vm_base.specs.declared.faults.Fault.{Fault}
use Rattle.vm_base.specs.FlatStep.{unmap_of, protect_of}
use Rattle.vm_base.specs.MemoryState.{IsKept}
use Rattle.vm_base.specs.MemoryCalls.{map_answer, unmap_answer, protect_answer, Refuses, Changes, Maps}
use Rattle.area_list.specs.declared.fault.AreaFault.{AreaFault}
use Rattle.kernel_meaning.specs.EventRequests.{pages_unmapped, pages_protected}
use Rattle.trace_events.specs.declared.outcome.Outcome.{Outcome}
use Rattle.trace_events.specs.declared.outcome.Outcome.TheVariants.{Done}
use Rattle.trace_core.specs.KernelState.{Machine, KernelState}
use Rattle.trace_core.specs.EventMeaning.{areas_changed, mapped, begun}
use Rattle.trace_core.specs.TouchAnswers.{touch_outcome, fault_outcome}
use Rattle.trace_core.specs.CallAnswers.{area_outcome}
use Rattle.trace_core.specs.KernelStanding.{KernelParts, KernelStands, EventRan}
use Rattle.trace_core.specs.KernelSeen.{KernelNotes, IsKernelNoted, HasReached, memory_of, kernel_memory}
use Rattle.trace_core.proofs.memories.WithEnough.{told-maps, told-changes, told-refuses, told-kept}
use Rattle.trace_core.proofs.memories.ClauseProps.{Maps-prop, Changes-prop, Refuses-prop, known-kept}
use Rattle.trace_core.proofs.memories.AreaViews.{IsInBounds, is_done, fault-undone, map-maps, map-refuses, map-kept, map-sound, unmap-changes, unmap-refuses, unmap-kept, unmap-sound, protect-changes, protect-refuses, protect-kept, protect-sound}

-- ---- what a change of areas answers

-- a fault is told otherwise than what was done
undone : (fault : Fault) → fault_outcome fault ≢ Done
undone fault done = false≢true (sym (fault-undone fault) ∙ ap is_done done)

-- where it was not done it was refused
pub unless-done : {P : Type 0} (changed : Result (Unit {0}) AreaFault) → OnErr changed P → area_outcome changed ≢ Done → P
unless-done (Ok done) kept other = absurd (other refl)
unless-done (Err fault) kept other = kept

-- ---- the count of refused requests

-- the parts have refused so many requests, whatever state they stand for
abbrev Counts : KernelParts → ℕ → Type 0
Counts parts count = (machine : Machine) (state : KernelState) → KernelStands parts machine state → count ≡ state.world.refused

bounds : (parts : KernelParts) (machine : Machine) (state : KernelState) → KernelStands parts machine state → parts.supply.out ≤ parts.supply.made → (count : ℕ) → count ≤ 2 ^ 64 - 1 → Counts parts count
    → IsInBounds parts.supply
bounds parts machine state stands lent count fits counts = (lent, subst (λ k. k ≤ 2 ^ 64 - 1) (counts machine state stands ∙ sym stands.supply.refused) fits)

-- ---- mapping

-- they mapped from whatever state they stood for
abbrev pub HasMapped : KernelParts → KernelParts → ℕ → ℕ → Perm → Outcome → Type 0
HasMapped old new first n perm outcome = (machine : Machine) (state : KernelState) → KernelStands old machine state
    → EventRan old new machine (λ answers. mapped state answers first n perm) outcome

module _ (old new : KernelParts) (notes : KernelNotes) (first n : ℕ) (perm : Perm) (known : ∥ IsKernelNoted old notes ∥₁) where
  pub map-known : (outcome : Outcome) → 0 < n → first + n ≤ 2 ^ 36 → HasMapped old new first n perm outcome → ∥ IsKernelNoted new notes ∥₁
  map-known outcome some within ran = ∥∥₁_map known (λ it.
      let behind = ran it.0 it.1.0 it.1.1.stands in
      (it.0, (behind.after, map-sound old new notes it.0 it.1.0 it.1.1 first n perm outcome some within behind)))

  pub map-granted : (result : Result (Unit {0}) Fault) (outcome : Outcome) → touch_outcome result ≡ outcome → 0 < n → HasMapped old new first n perm outcome → new ≡ record old { areas = new.areas }
      → OnOk result (Maps (kernel_memory old notes) (kernel_memory new notes) (map_answer (kernel_memory old notes) first n perm))
  map-granted (Ok done) outcome told some ran others = told-maps (memory_of old notes.most) (memory_of new notes.most) notes.enough notes.enough refl {E = Fault} (map_answer (memory_of old notes.most) first n perm) (Ok done) (
      ∥∥₁_elim known (Maps-prop (memory_of old notes.most) (memory_of new notes.most) (map_answer (memory_of old notes.most) first n perm)) (λ it.
      map-maps old new notes it.0 it.1.0 it.1.1 notes.most first n perm some
      (subst (λ o. HasMapped old new first n perm o) (sym told) ran it.0 it.1.0 it.1.1.stands) others))
  map-granted (Err fault) outcome told some ran others = tt

  pub map-refused : (result : Result (Unit {0}) Fault) (outcome : Outcome) → touch_outcome result ≡ outcome → HasMapped old new first n perm outcome → (outcome ≢ Done → new ≡ old)
      → IfErr result (Refuses (kernel_memory old notes) (kernel_memory new notes) (map_answer (kernel_memory old notes) first n perm))
  map-refused (Ok done) outcome told ran kept = tt
  map-refused (Err fault) outcome told ran kept = told-refuses (memory_of old notes.most) (memory_of new notes.most) notes.enough notes.enough refl {X = Unit {0}} (map_answer (memory_of old notes.most) first n perm) (Err fault) (
      ∥∥₁_elim known (Refuses-prop (memory_of old notes.most) (memory_of new notes.most) (map_answer (memory_of old notes.most) first n perm) fault) (λ it.
      map-refuses old new it.0 it.1.0 it.1.1.stands notes.most first n perm fault
      (subst (λ o. HasMapped old new first n perm o) (sym told) ran it.0 it.1.0 it.1.1.stands) (kept (λ done. undone fault (told ∙ done)))))

  pub map-keeps : (outcome : Outcome) → HasMapped old new first n perm outcome → old.supply.out ≤ old.supply.made → (count : ℕ) → count ≤ 2 ^ 64 - 1 → Counts old count → 0 < n → first + n ≤ 2 ^ 36 → HasReached old notes → HasReached new notes → IsKept (kernel_memory old notes) (kernel_memory new notes) []
  map-keeps outcome ran lent count fits counts some within stood reached = told-kept (memory_of old notes.most) (memory_of new notes.most) notes.enough notes.enough refl [] stood reached (
      known-kept (memory_of old notes.most) (memory_of new notes.most) [] known (λ it.
      map-kept old new notes it.0 it.1.0 it.1.1 (bounds old it.0 it.1.0 it.1.1.stands lent count fits counts) first n perm outcome some within (ran it.0 it.1.0 it.1.1.stands)))

-- ---- unmapping

-- they unmapped from whatever state they stood for
abbrev pub HasUnmapped : KernelParts → KernelParts → ℕ → ℕ → Outcome → Type 0
HasUnmapped old new first n outcome = (machine : Machine) (state : KernelState) → KernelStands old machine state
    → EventRan old new machine (λ answers. areas_changed state (unmap_of state.world.parent first n) (pages_unmapped first n (begun state answers))) outcome

module _ (old new : KernelParts) (notes : KernelNotes) (first n : ℕ) (known : ∥ IsKernelNoted old notes ∥₁) where
  pub unmap-known : (outcome : Outcome) → 0 < n → first + n ≤ 2 ^ 36 → HasUnmapped old new first n outcome → ∥ IsKernelNoted new notes ∥₁
  unmap-known outcome some within ran = ∥∥₁_map known (λ it.
      let behind = ran it.0 it.1.0 it.1.1.stands in
      (it.0, (behind.after, unmap-sound old new notes it.0 it.1.0 it.1.1 first n outcome some within behind)))

  pub unmap-granted : (result : Result (Unit {0}) Fault) (outcome : Outcome) → touch_outcome result ≡ outcome → HasUnmapped old new first n outcome
      → OnOk result (Changes (kernel_memory old notes) (kernel_memory new notes) (unmap_answer (kernel_memory old notes) first n))
  unmap-granted (Ok done) outcome told ran = told-changes (memory_of old notes.most) (memory_of new notes.most) notes.enough notes.enough refl {E = Fault} (unmap_answer (memory_of old notes.most) first n) (Ok done) (
      ∥∥₁_elim known (Changes-prop (memory_of old notes.most) (memory_of new notes.most) (unmap_answer (memory_of old notes.most) first n)) (λ it.
      unmap-changes old new it.0 it.1.0 it.1.1.stands notes.most first n
      (subst (λ o. HasUnmapped old new first n o) (sym told) ran it.0 it.1.0 it.1.1.stands)))
  unmap-granted (Err fault) outcome told ran = tt

  pub unmap-refused : (result : Result (Unit {0}) Fault) (outcome : Outcome) → touch_outcome result ≡ outcome → HasUnmapped old new first n outcome → (outcome ≢ Done → new ≡ old)
      → IfErr result (Refuses (kernel_memory old notes) (kernel_memory new notes) (unmap_answer (kernel_memory old notes) first n))
  unmap-refused (Ok done) outcome told ran kept = tt
  unmap-refused (Err fault) outcome told ran kept = told-refuses (memory_of old notes.most) (memory_of new notes.most) notes.enough notes.enough refl {X = Unit {0}} (unmap_answer (memory_of old notes.most) first n) (Err fault) (
      ∥∥₁_elim known (Refuses-prop (memory_of old notes.most) (memory_of new notes.most) (unmap_answer (memory_of old notes.most) first n) fault) (λ it.
      unmap-refuses old new it.0 it.1.0 it.1.1.stands notes.most first n fault
      (subst (λ o. HasUnmapped old new first n o) (sym told) ran it.0 it.1.0 it.1.1.stands) (kept (λ done. undone fault (told ∙ done)))))

  pub unmap-keeps : (outcome : Outcome) → HasUnmapped old new first n outcome → old.supply.out ≤ old.supply.made → (count : ℕ) → count ≤ 2 ^ 64 - 1 → Counts old count → 0 < n → first + n ≤ 2 ^ 36 → HasReached old notes → HasReached new notes → IsKept (kernel_memory old notes) (kernel_memory new notes) []
  unmap-keeps outcome ran lent count fits counts some within stood reached = told-kept (memory_of old notes.most) (memory_of new notes.most) notes.enough notes.enough refl [] stood reached (
      known-kept (memory_of old notes.most) (memory_of new notes.most) [] known (λ it.
      unmap-kept old new notes it.0 it.1.0 it.1.1 (bounds old it.0 it.1.0 it.1.1.stands lent count fits counts) first n outcome some within (ran it.0 it.1.0 it.1.1.stands)))

-- ---- protecting

-- they protected from whatever state they stood for
abbrev pub HasProtected : KernelParts → KernelParts → ℕ → ℕ → Perm → Outcome → Type 0
HasProtected old new first n perm outcome = (machine : Machine) (state : KernelState) → KernelStands old machine state
    → EventRan old new machine (λ answers. areas_changed state (protect_of state.world.parent first n perm) (pages_protected first n (begun state answers))) outcome

module _ (old new : KernelParts) (notes : KernelNotes) (first n : ℕ) (perm : Perm) (known : ∥ IsKernelNoted old notes ∥₁) where
  pub protect-known : (outcome : Outcome) → 0 < n → first + n ≤ 2 ^ 36 → HasProtected old new first n perm outcome → ∥ IsKernelNoted new notes ∥₁
  protect-known outcome some within ran = ∥∥₁_map known (λ it.
      let behind = ran it.0 it.1.0 it.1.1.stands in
      (it.0, (behind.after, protect-sound old new notes it.0 it.1.0 it.1.1 first n perm outcome some within behind)))

  pub protect-granted : (result : Result (Unit {0}) Fault) (outcome : Outcome) → touch_outcome result ≡ outcome → HasProtected old new first n perm outcome
      → OnOk result (Changes (kernel_memory old notes) (kernel_memory new notes) (protect_answer (kernel_memory old notes) first n perm))
  protect-granted (Ok done) outcome told ran = told-changes (memory_of old notes.most) (memory_of new notes.most) notes.enough notes.enough refl {E = Fault} (protect_answer (memory_of old notes.most) first n perm) (Ok done) (
      ∥∥₁_elim known (Changes-prop (memory_of old notes.most) (memory_of new notes.most) (protect_answer (memory_of old notes.most) first n perm)) (λ it.
      protect-changes old new it.0 it.1.0 it.1.1.stands notes.most first n perm
      (subst (λ o. HasProtected old new first n perm o) (sym told) ran it.0 it.1.0 it.1.1.stands)))
  protect-granted (Err fault) outcome told ran = tt

  pub protect-refused : (result : Result (Unit {0}) Fault) (outcome : Outcome) → touch_outcome result ≡ outcome → HasProtected old new first n perm outcome → (outcome ≢ Done → new ≡ old)
      → IfErr result (Refuses (kernel_memory old notes) (kernel_memory new notes) (protect_answer (kernel_memory old notes) first n perm))
  protect-refused (Ok done) outcome told ran kept = tt
  protect-refused (Err fault) outcome told ran kept = told-refuses (memory_of old notes.most) (memory_of new notes.most) notes.enough notes.enough refl {X = Unit {0}} (protect_answer (memory_of old notes.most) first n perm) (Err fault) (
      ∥∥₁_elim known (Refuses-prop (memory_of old notes.most) (memory_of new notes.most) (protect_answer (memory_of old notes.most) first n perm) fault) (λ it.
      protect-refuses old new it.0 it.1.0 it.1.1.stands notes.most first n perm fault
      (subst (λ o. HasProtected old new first n perm o) (sym told) ran it.0 it.1.0 it.1.1.stands) (kept (λ done. undone fault (told ∙ done)))))

  pub protect-keeps : (outcome : Outcome) → HasProtected old new first n perm outcome → old.supply.out ≤ old.supply.made → (count : ℕ) → count ≤ 2 ^ 64 - 1 → Counts old count → 0 < n → first + n ≤ 2 ^ 36 → HasReached old notes → HasReached new notes → IsKept (kernel_memory old notes) (kernel_memory new notes) []
  protect-keeps outcome ran lent count fits counts some within stood reached = told-kept (memory_of old notes.most) (memory_of new notes.most) notes.enough notes.enough refl [] stood reached (
      known-kept (memory_of old notes.most) (memory_of new notes.most) [] known (λ it.
      protect-kept old new notes it.0 it.1.0 it.1.1 (bounds old it.0 it.1.0 it.1.1.stands lent count fits counts) first n perm outcome some within (ran it.0 it.1.0 it.1.1.stands)))
