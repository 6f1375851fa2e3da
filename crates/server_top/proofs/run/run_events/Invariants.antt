-- The kernel has run the events so far, and of their lines those that are there wait; the forks to come rise above its last number.
use Rattle.std.proofs.Common.{◌≤◌, map, take, drop}
use Rattle.trace_text.specs.ScriptGrammar.{AreForksRising}
use Rattle.trace_text.specs.SoFar.{script_parts}
use Rattle.trace_core.specs.SupplyState.{supply_state_of}
use Rattle.server_top.specs.RunPromise.{script_machine}
use Rattle.server_top.proofs.Lines.{HasGoneOn}
use Rattle.server_top.proofs.run.run_events.Given as goal

abbrev pub invariant-loop-place : goal.invariant-loop-place
invariant-loop-place g l = record {
  gone : HasGoneOn
      (record {
        areas = l.fn.kernel.parts.areas;
        tables = l.fn.kernel.parts.tables;
        supply = supply_state_of (record {
          made = l.fn.kernel.parts.supply.pool.stack.made;
          free = l.fn.kernel.parts.supply.pool.stack.free;
          asks = l.fn.kernel.parts.supply.pool.asks;
          policies = map (λ b. (goal.FramePolicy-dyn g (b.vtable, b.value)).told b.value) l.fn.kernel.parts.supply.pool.policies.items;
        }) l.fn.kernel.parts.supply.asker l.fn.kernel.parts.supply.refused l.fn.kernel.parts.supply.pending;
        snapshot = l.fn.kernel.parts.snapshot;
        last = l.fn.kernel.parts.last;
      })
      (record {
        areas = l.kernel.parts.areas;
        tables = l.kernel.parts.tables;
        supply = supply_state_of (record {
          made = l.kernel.parts.supply.pool.stack.made;
          free = l.kernel.parts.supply.pool.stack.free;
          asks = l.kernel.parts.supply.pool.asks;
          policies = map (λ b. (goal.FramePolicy-dyn g (b.vtable, b.value)).told b.value) l.kernel.parts.supply.pool.policies.items;
        }) l.kernel.parts.supply.asker l.kernel.parts.supply.refused l.kernel.parts.supply.pending;
        snapshot = l.kernel.parts.snapshot;
        last = l.kernel.parts.last;
      })
      (script_machine (script_parts l.script)) (take l.place (script_parts l.script).events) (g.O.Sink.written l.fn.output) (g.O.Sink.written l.output) l.lines;
  rising : AreForksRising l.kernel.parts.last (drop l.place (script_parts l.script).events);
  faults : g.O.Sink.faults l.fn.output ≤ g.O.Sink.faults l.output;
}
