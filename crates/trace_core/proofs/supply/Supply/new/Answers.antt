use Rattle.std.proofs.Common.{None, refl, ◌∙◌, ap}
use Rattle.std.proofs.lemmas.List.FromFn.{length-range_with_len}
use Rattle.vm_base.specs.declared.frame_request.Asker.TheVariants.{Parent}
use Rattle.trace_core.specs.SupplyState.{supply_state_of}
use Rattle.trace_core.proofs.events.Writes.{opens-all}
use Rattle.trace_core.proofs.supply.Supply.new.Goals as goal

pub returns : goal.returns
returns g c = ap (λ pool. supply_state_of pool Parent 0 None) c.in_ok-new.ensures ∙ opens-all c.args.frames c.args.frames _ _ refl (length-range_with_len 0 c.args.frames)
