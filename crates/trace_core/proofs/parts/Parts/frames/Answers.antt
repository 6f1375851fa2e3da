use Rattle.std.proofs.Common.{refl}
use Rattle.trace_events.specs.declared.event.Event.TheVariants.{Frames}
use Rattle.trace_core.proofs.runs.RunSteps.{told-follows, frames-told}
use Rattle.trace_core.proofs.parts.Parts.frames.Goals as goal

pub returns : goal.returns
returns g c = record {
  ran = λ machine state st. told-follows _ machine state Frames _ refl refl st
      (frames-told machine state c.held.result c.free.result (c.held.ensures.held machine state st) (c.free.ensures.free machine state st));
}
