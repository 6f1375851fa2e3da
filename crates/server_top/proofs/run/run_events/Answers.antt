-- The kernel has run the events so far, and their lines are written or wait, at each step and at each end.
use Rattle.std.proofs.Common.{arith, ap, subst, ◌∙◌, ◌+◌, refl, []}
use Rattle.std.specs.Prelude.{OnOk, OnErr}
use Rattle.io_face.specs.Told.{Adds, AddsPrefix}
use Rattle.std.proofs.lemmas.List.{take_all}
use Rattle.trace_text.specs.SoFar.{script_parts}
use Rattle.server_top.specs.RunPromise.{script_machine}
use Rattle.server_top.proofs.Written.{on_err, on_err_then, on_ok_then}
use Rattle.server_top.proofs.Lines.{gone_nowhere, gone_further, gone_written, gone_renamed, lines_in_front, lines_in_part, all_lines}
use Rattle.server_top.proofs.ForkNumbers.{first-above, rising-behind}
use Rattle.server_top.proofs.run.run_events.Goals as goal
use Rattle.server_top.proofs.run.run_events.Goals.{then-as_slice-ge-PIECE+in_ok-write_text, else-as_slice-ge-PIECE}

pub loop-place-init : goal.loop-place-init
loop-place-init g c = record {
  gone = gone_renamed _ _ _ _ _ _ _ [] _ refl c.new-lines.ensures (gone_nowhere _ _ _);
  rising = c.requires.rising;
  faults = omega arith;
}

pub push_line-requires-clause-numbered : goal.push_line-requires-clause-numbered
push_line-requires-clause-numbered g c =
    first-above _ (script_parts c.args.script.now).events c.loop-place.place c.event.result.now (omega arith) c.event.ensures c.loop-place.invariant.rising

pub returns-in_err-push_line-clause-err : goal.returns-in_err-push_line-clause-err
returns-in_err-push_line-clause-err g c =
    on_err _ _ (lines_in_front _ _ (script_parts c.args.script.now) c.loop-place.place _ _ _ c.loop-place.invariant.gone)

pub returns-in_err-write_text-clause-err : goal.returns-in_err-write_text-clause-err
returns-in_err-write_text-clause-err g c =
    let gone = gone_further _ _ _ (script_machine (script_parts c.args.script.now)) (script_parts c.args.script.now).events c.loop-place.place c.event.result.now _ _ _ _
    (omega arith) c.event.ensures c.in_ok-push_line.ensures.ran c.loop-place.invariant.gone in
    on_err _ _ (lines_in_part _ _ (script_parts c.args.script.now) (c.loop-place.place + 1) _ _ _ _ gone (subst (AddsPrefix (g.O.Sink.written c.loop-place.output) (g.O.Sink.written c.write_text.new.output)) c.as_slice-then-as_slice-ge-PIECE.ensures c.in_err-write_text.ensures.err))

pub loop-place-preserved : goal.loop-place-preserved
loop-place-preserved g c =
    let gone = gone_further _ _ _ (script_machine (script_parts c.args.script.now)) (script_parts c.args.script.now).events c.loop-place.place c.event.result.now _ _ _ _
    (omega arith) c.event.ensures c.in_ok-push_line.ensures.ran c.loop-place.invariant.gone in
    record {
      gone = elim c.if-as_slice-ge-PIECE.branch [
        | then-as_slice-ge-PIECE+in_ok-write_text w ↦
            gone_renamed _ _ _ _ _ (g.O.Sink.written w.write_text.new.output) _ [] _ (ap (λ o. g.O.Sink.written o) w.output-is) (w.lines-is ∙ w.clear.ensures)
            (gone_written _ _ _ _ _ _ _ _ gone (subst (Adds (g.O.Sink.written c.loop-place.output) (g.O.Sink.written w.write_text.new.output)) w.as_slice-then-as_slice-ge-PIECE.ensures w.in_ok-write_text.ensures.ok))
        | else-as_slice-ge-PIECE w ↦ gone_renamed _ _ _ _ _ (g.O.Sink.written c.loop-place.output) _ c.push_line.new.lines _ (ap (λ o. g.O.Sink.written o) w.output-is) w.lines-is gone
      ];
      rising = rising-behind _ _ (script_parts c.args.script.now).events c.loop-place.place c.event.result.now (omega arith) c.event.ensures c.in_ok-push_line.ensures.last c.loop-place.invariant.rising;
      faults = elim c.if-as_slice-ge-PIECE.branch [
        | then-as_slice-ge-PIECE+in_ok-write_text w ↦ omega (arith, c.loop-place.invariant.faults, w.write_text.ensures.faults, ap (λ o. g.O.Sink.faults o) w.output-is)
        | else-as_slice-ge-PIECE w ↦ omega (arith, c.loop-place.invariant.faults, ap (λ o. g.O.Sink.faults o) w.output-is)
      ];
    }

pub returns-clause-ok : goal.returns-clause-ok
returns-clause-ok g c =
    on_ok_then _ _ _ (subst (λ text. OnOk c.write_text-2.result (Adds (g.O.Sink.written c.loop-place.output) (g.O.Sink.written c.write_text-2.new.output) text)) c.as_slice-2.ensures c.write_text-2.ensures.ok)
    (all_lines _ _ (script_parts c.args.script.now) c.loop-place.place _ _ _ _ (take_all c.loop-place.place (script_parts c.args.script.now).events (omega arith)) c.loop-place.invariant.gone)

pub returns-clause-err : goal.returns-clause-err
returns-clause-err g c =
    on_err_then _ _ _ (subst (λ text. OnErr c.write_text-2.result (AddsPrefix (g.O.Sink.written c.loop-place.output) (g.O.Sink.written c.write_text-2.new.output) text)) c.as_slice-2.ensures c.write_text-2.ensures.err)
    (lines_in_part _ _ (script_parts c.args.script.now) c.loop-place.place _ _ _ _ c.loop-place.invariant.gone)
