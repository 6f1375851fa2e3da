-- The deals of an event as dealings, which led the supply on.
use Rattle.std.proofs.Common.{◌≡◌, false, List, [], ◌∷◌, refl, sym, ◌∙◌, ap, subst}
use Rattle.std.proofs.lemmas.Bool.{false≢true}
use Rattle.vm_base.specs.declared.frame_request.Asker.TheVariants.{Parent}
use Rattle.vm_base.specs.Deals.{Deal, Granted, Denied, Returned, LeadsAlong}
use Rattle.kernel_meaning.specs.Stretches.{dealings_of}
use Rattle.trace_events.specs.declared.event.Event.{Event}
use Rattle.trace_events.specs.declared.event.Event.TheVariants.{Refuse}
use Rattle.trace_core.specs.EventMeaning.{asker_of}
use Rattle.trace_core.specs.KernelRun.{unnamed_by}
use Rattle.trace_core.specs.DealtSupply.{as_asker, DealtAlong}
use Rattle.trace_core.specs.SupplyState.{SupplyState, SupplyGoes}
use Rattle.trace_core.proofs.runs.EventCounts.{is_refuse}

-- a deal leaves who asks
goes-asker : (old new : SupplyState) (deal : Deal) → SupplyGoes old deal new → new.asker ≡ old.asker
goes-asker old new (Granted want) goes = ap (λ supply. supply.asker) goes.is
goes-asker old new (Denied want at) goes = ap (λ supply. supply.asker) goes.is
goes-asker old new Returned goes = ap (λ supply. supply.asker) goes.is

-- the deals of the parent, as its dealings
pub led-dealt : (deals : List Deal) (old new : SupplyState) → old.asker ≡ Parent → LeadsAlong SupplyGoes old deals new
    → DealtAlong old (dealings_of Parent deals) new
led-dealt [] old new parents led = ap (as_asker old.asker old.refused) led
led-dealt (deal ∷ deals) old new parents led =
    let next : led.0.asker ≡ Parent = goes-asker old led.0 deal led.1.0 ∙ parents in (
      led.0,
      (
        old.refused,
        (
          led.0.refused,
          (
            subst (λ supply. SupplyGoes supply deal (as_asker Parent led.0.refused led.0)) (λ i. as_asker (parents i) old.refused old)
                (subst (λ supply. SupplyGoes old deal supply) (λ i. as_asker (next i) led.0.refused led.0) led.1.0),
            led-dealt deals led.0 new next led.1.1,
          ),
        ),
      ),
    )

unnamed-plain : (event : Event) (from new : SupplyState) → is_refuse event ≡ false → unnamed_by event from new ≡ new
unnamed-plain (Refuse nth) from new plain = absurd (false≢true (sym plain))
unnamed-plain event from new plain = refl

-- the deals of an event of the parent, which is no refuse line
pub event-dealt : (event : Event) (deals : List Deal) (from new : SupplyState) → asker_of event ≡ Parent → is_refuse event ≡ false
    → from.asker ≡ Parent → LeadsAlong SupplyGoes from deals new
    → DealtAlong from (dealings_of (asker_of event) deals) (unnamed_by event from new)
event-dealt event deals from new parents plain asks led =
    subst (λ supply. DealtAlong from (dealings_of (asker_of event) deals) supply) (sym (unnamed-plain event from new plain))
    (subst (λ asker. DealtAlong from (dealings_of asker deals) new) (sym parents) (led-dealt deals from new asks led))
