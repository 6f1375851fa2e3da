use Rattle.std.proofs.Common.{length, take, drop, ◌++◌, sym, ◌∙◌, ap}
use Rattle.std.proofs.Math.Seq.{take-append_seam}
use Rattle.trace_events.specs.declared.outcome.Outcome.TheVariants.{Bytes}
use Rattle.trace_core.specs.EventMeaning.{read_outcome}
use Rattle.vm_base.specs.FlatStep.{read_of}
use Rattle.trace_core.specs.KernelStanding.{buffer_answer}
use Rattle.trace_core.proofs.runs.RunSteps.{read-follows}
use Rattle.trace_core.proofs.parts.Parts.read_event.Goals as goal

pub returns-in-Ok : goal.returns-in-Ok
returns-in-Ok g c =
    let size = c.deref_mut.ensures.len ∙ c.in_ok-buf.ensures.len in
    let all = ap (λ n. take n (c.read.new.buf ++ drop (length c.read.new.buf) c.in_ok-buf.buf.items)) (sym (c.read.auto.buf ∙ c.deref_mut.ensures.len))
    ∙ take-append_seam c.read.new.buf _ in
    record {
      ran = λ machine state st. read-follows _ machine state c.args.addr c.args.len _ st
          (ap (λ n. read_outcome (read_of state.world.parent c.args.addr n)) (sym size) ∙ ap read_outcome (c.read.ensures.read machine state st) ∙ ap (λ answer. read_outcome (buffer_answer answer c.read.new.buf)) c.in-Ok.is ∙ ap Bytes (sym all) ∙ sym c.bytes_outcome.ensures);
    }

pub returns-in-Err : goal.returns-in-Err
returns-in-Err g c =
    let size = c.deref_mut.ensures.len ∙ c.in_ok-buf.ensures.len in
    record {
      ran = λ machine state st. read-follows _ machine state c.args.addr c.args.len _ st
          (ap (λ n. read_outcome (read_of state.world.parent c.args.addr n)) (sym size) ∙ ap read_outcome (c.read.ensures.read machine state st) ∙ ap (λ answer. read_outcome (buffer_answer answer c.read.new.buf)) c.in-Err.is);
    }
