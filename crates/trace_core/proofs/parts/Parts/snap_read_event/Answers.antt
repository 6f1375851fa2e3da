use Rattle.std.proofs.Common.{length, take, drop, ◌++◌, sym, ◌∙◌, ap}
use Rattle.std.proofs.Math.Seq.{take-append_seam}
use Rattle.trace_events.specs.declared.outcome.Outcome.TheVariants.{Bytes}
use Rattle.trace_core.specs.EventMeaning.{snap_read_outcome}
use Rattle.vm_base.specs.TwoSides.{snap_read_of}
use Rattle.trace_core.specs.SnapshotAnswers.{snap_read_answer}
use Rattle.trace_core.proofs.runs.RunSteps.{snap_read-follows}
use Rattle.trace_core.proofs.parts.Parts.snap_read_event.Goals as goal

pub returns-in-Ok : goal.returns-in-Ok
returns-in-Ok g c =
    let size = c.deref_mut.ensures.len ∙ c.in_ok-buf.ensures.len in
    let all = ap (λ n. take n (c.snap_read.new.buf ++ drop (length c.snap_read.new.buf) c.in_ok-buf.buf.items)) (sym (c.snap_read.auto.buf ∙ c.deref_mut.ensures.len))
    ∙ take-append_seam c.snap_read.new.buf _ in
    record {
      ran = λ machine state st. snap_read-follows _ machine state c.args.number c.args.addr c.args.len _ st
          (ap (λ n. snap_read_outcome (snap_read_of state.world c.args.number c.args.addr n)) (sym size) ∙ ap snap_read_outcome (c.snap_read.ensures.read machine state st) ∙ ap (λ answer. snap_read_outcome (snap_read_answer answer c.snap_read.new.buf)) c.in-Ok.is ∙ ap Bytes (sym all) ∙ sym c.bytes_outcome.ensures);
    }

pub returns-in-Err : goal.returns-in-Err
returns-in-Err g c =
    let size = c.deref_mut.ensures.len ∙ c.in_ok-buf.ensures.len in
    record {
      ran = λ machine state st. snap_read-follows _ machine state c.args.number c.args.addr c.args.len _ st
          (ap (λ n. snap_read_outcome (snap_read_of state.world c.args.number c.args.addr n)) (sym size) ∙ ap snap_read_outcome (c.snap_read.ensures.read machine state st) ∙ ap (λ answer. snap_read_outcome (snap_read_answer answer c.snap_read.new.buf)) c.in-Err.is ∙ sym c.fault_outcome.ensures);
    }
