use Rattle.std.proofs.Common.{◌+◌, ◌≤◌, ◌∙◌, ap, subst, sym, length}
use Rattle.std.specs.Option.{ForSome}
use Rattle.trace_core.specs.KernelState.{opening_state}
use Rattle.trace_core.specs.KernelSeen.{parts_of, notes_of, opening_memory, enough_of}
use Rattle.trace_core.proofs.supplies.Policies.{stands-under}
use Rattle.trace_core.proofs.memories.EventSoundness.{opening-sound}
use Rattle.trace_core.proofs.processes.NoteCalls.{opening-holds, enough-of, holds-under}
use Rattle.trace_core.proofs.memories.NewKernels.{opening-seen, none-stand, plain-when-told}
use Rattle.trace_core.proofs.memories.SlotUsers.{used-there}
use Rattle.trace_core.proofs.kernel.Kernel.new.Goals as goal

pub invariant_of-result-clause-stood : goal.invariant_of-result-clause-stood
invariant_of-result-clause-stood g c = ∣ (
  record { frames = c.args.frames; slots = c.args.cells; limit = 1 },
  (
    opening_state c.args.last,
    opening-sound _ _ _ c.args.last (stands-under _ _ _ _ c.in_ok-parts.ensures.stands),
  ),
) ∣₁

pub invariant_of-result-clause-held : goal.invariant_of-result-clause-held
invariant_of-result-clause-held g c =
    holds-under _ _ _ (opening-holds _ (notes_of c.new-notes.result) (record { frames = c.args.frames; slots = c.args.cells; limit = 1 }) c.args.last c.in_ok-parts.ensures.stands c.in_ok-parts.ensures.alone
    (subst (λ enough. ForSome enough (λ enough. enough + enough ≤ c.args.frames + 2))
    (sym (c.new-notes.ensures.enough ∙ c.enough_of-enough.ensures ∙ ap (enough_of c.args.frames) (c.len.ensures ∙ c.args.policies.ok.0)))
    (enough-of c.args.frames (length c.args.policies.items))))

pub invariant_of-result-clause-plain : goal.invariant_of-result-clause-plain
invariant_of-result-clause-plain g c =
    plain-when-told _ c.args.frames (length c.args.policies.items) _ (c.new-notes.ensures.enough ∙ c.enough_of-enough.ensures ∙ ap (enough_of c.args.frames) (c.len.ensures ∙ c.args.policies.ok.0))
    (none-stand _ _ _ c.args.policies.items (ap (λ supply. supply.policies.is_empty) c.in_ok-parts.ensures.supply))

pub returns-clause-memory : goal.returns-clause-memory
returns-clause-memory g c =
    opening-seen (parts_of c.in_ok-parts.parts) (notes_of c.new-notes.result) (record { frames = c.args.frames; slots = c.args.cells; limit = 1 }) c.args.last
    (opening-sound _ _ _ c.args.last (stands-under _ _ _ _ c.in_ok-parts.ensures.stands)) c.new-notes.ensures.most
    ∙ ap (opening_memory c.args.frames c.args.cells) (c.new-notes.ensures.enough ∙ c.enough_of-enough.ensures ∙ ap (enough_of c.args.frames) (c.len.ensures ∙ c.args.policies.ok.0))

pub invariant_of-result-clause-slotted : goal.invariant_of-result-clause-slotted
invariant_of-result-clause-slotted g c = used-there _ _ (invariant_of-result-clause-stood g c) (invariant_of-result-clause-held g c)
