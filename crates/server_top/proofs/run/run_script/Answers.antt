-- A kernel over the pool of the policies has begun a run under what they tell.
use Rattle.std.proofs.Common.{refl}
use Rattle.trace_text.specs.SoFar.{script_parts}
use Rattle.server_top.specs.RunPromise.{WroteLines, WroteSomeLines}
use Rattle.server_top.proofs.Lines.{no_lines, begun_on, for_begun}
use Rattle.server_top.proofs.Written.{on_err, on_err_then, on_ok_then}
use Rattle.server_top.proofs.run.run_script.Goals as goal

pub returns-in_err-kernel-clause-err : goal.returns-in_err-kernel-clause-err
returns-in_err-kernel-clause-err g c = on_err _ _ (no_lines _ _ _)

pub returns-clause-ok : goal.returns-clause-ok
returns-clause-ok g c =
    let begun = begun_on _ (script_parts c.args.script.now) _ _ _ _ c.frames.ensures c.cells.ensures refl c.in_ok-kernel.ensures.begins in
    on_ok_then _ _ _ c.run_events.ensures.ok
    (for_begun _ (script_parts c.args.script.now) _ (λ policies. WroteLines (script_parts c.args.script.now) policies (g.O.Sink.written c.args.output.now) (g.O.Sink.written c.run_events.new.output)) begun)

pub returns-clause-err : goal.returns-clause-err
returns-clause-err g c =
    let begun = begun_on _ (script_parts c.args.script.now) _ _ _ _ c.frames.ensures c.cells.ensures refl c.in_ok-kernel.ensures.begins in
    on_err_then _ _ _ c.run_events.ensures.err
    (for_begun _ (script_parts c.args.script.now) _
    (λ policies. WroteSomeLines (script_parts c.args.script.now) policies (g.O.Sink.written c.args.output.now) (g.O.Sink.written c.run_events.new.output)) begun)
