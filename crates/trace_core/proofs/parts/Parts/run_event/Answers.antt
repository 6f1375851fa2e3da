use Rattle.std.proofs.Common.{refl, sym, ◌∙◌, ap, subst}
use Rattle.trace_events.specs.declared.event.Event.TheVariants.{Map, Unmap, Protect, Write, Fill, Fork, Copy, Drop, Frames, Refuse}
use Rattle.vm_base.specs.declared.fork_mode.Mode.TheVariants.{Eager}
use Rattle.trace_events.specs.EventBounds.{IsWithinBounds}
use Rattle.trace_core.proofs.runs.RunSteps.{HasEnded, ran-same, ran-parent, ran-if-ok, only-eager, copy-follows}
use Rattle.trace_core.proofs.parts.Parts.run_event.Goals as goal

pub returns-in-Map-clause-ran : goal.returns-in-Map-clause-ran
returns-in-Map-clause-ran g c = ran-parent _ _ c.args.event.now (Map c.in-Map.first c.in-Map.pages c.in-Map.perm) c.area_outcome.result c.in-Map.is refl refl
    (subst (HasEnded _ _ (Map c.in-Map.first c.in-Map.pages c.in-Map.perm)) (sym c.area_outcome.ensures) c.map.ensures.ran)

pub returns-in-Unmap-clause-ran : goal.returns-in-Unmap-clause-ran
returns-in-Unmap-clause-ran g c = ran-parent _ _ c.args.event.now (Unmap c.in-Unmap.first c.in-Unmap.pages) c.area_outcome-in-Unmap.result c.in-Unmap.is refl refl
    (subst (HasEnded _ _ (Unmap c.in-Unmap.first c.in-Unmap.pages)) (sym c.area_outcome-in-Unmap.ensures) c.unmap.ensures.ran)

pub returns-in-Protect-clause-ran : goal.returns-in-Protect-clause-ran
returns-in-Protect-clause-ran g c = ran-parent _ _ c.args.event.now (Protect c.in-Protect.first c.in-Protect.pages c.in-Protect.perm) c.area_outcome-in-Protect.result c.in-Protect.is refl refl
    (subst (HasEnded _ _ (Protect c.in-Protect.first c.in-Protect.pages c.in-Protect.perm)) (sym c.area_outcome-in-Protect.ensures) c.protect.ensures.ran)

pub returns-in-Write-clause-ran : goal.returns-in-Write-clause-ran
returns-in-Write-clause-ran g c = ran-parent _ _ c.args.event.now (Write c.in-Write.addr c.as_slice.result.now) c.write.result (c.in-Write.is ∙ ap (Write c.in-Write.addr) (sym c.as_slice.ensures)) refl refl c.write.ensures.ran

pub returns-in-Fill-clause-ran : goal.returns-in-Fill-clause-ran
returns-in-Fill-clause-ran g c = ran-if-ok _ _ c.args.event.now (Fill c.in-Fill.addr c.in-Fill.len c.in-Fill.byte) c.fill.result c.in-Fill.is refl refl c.fill.ensures.ran

pub returns-in-Fork-clause-ran : goal.returns-in-Fork-clause-ran
returns-in-Fork-clause-ran g c =
    let within = subst IsWithinBounds c.in-Fork.is c.requires.within in
    ran-parent _ _ c.args.event.now (Fork c.in-Fork.number Eager) c.fork_outcome.result (c.in-Fork.is ∙ ap (Fork c.in-Fork.number) (only-eager c.in-Fork.mode within.1)) refl refl
    (subst (HasEnded _ _ (Fork c.in-Fork.number Eager)) (sym c.fork_outcome.ensures) c.fork.ensures.ran)

pub returns-in-Copy-clause-ran : goal.returns-in-Copy-clause-ran
returns-in-Copy-clause-ran g c = ran-same _ _ c.args.event.now (Copy c.in-Copy.number c.in-Copy.cell) c.copy.result c.in-Copy.is
    (λ machine state st. copy-follows _ _ machine state c.in-Copy.number c.in-Copy.cell c.copy.result st (c.copy.ensures.ran machine state st))

pub returns-in-Drop-clause-ran : goal.returns-in-Drop-clause-ran
returns-in-Drop-clause-ran g c = ran-parent _ _ c.args.event.now (Drop c.in-Drop.number) c.drop_snapshot.result c.in-Drop.is refl refl c.drop_snapshot.ensures.ran

pub returns-in-Frames-clause-ran : goal.returns-in-Frames-clause-ran
returns-in-Frames-clause-ran g c = ran-same _ _ c.args.event.now Frames c.frames.result c.in-Frames.is c.frames.ensures.ran

pub returns-in-Refuse-clause-ran : goal.returns-in-Refuse-clause-ran
returns-in-Refuse-clause-ran g c = ran-same _ _ c.args.event.now (Refuse c.in-Refuse.nth) c.refuse.result c.in-Refuse.is c.refuse.ensures.ran
