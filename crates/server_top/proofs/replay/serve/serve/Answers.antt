-- The replies so far, those that wait and those to come are all, at each step and at each end.
use Rattle.std.proofs.Common.{[], refl, ◌∙◌, ap, subst, arith}
use Rattle.std.specs.Prelude.{OnErr}
use Rattle.io_face.specs.Told.{Adds, AddsPrefix}
use Rattle.server_top.specs.ReplayRun.{book_state, replies_from}
use Rattle.server_top.proofs.Servings.{CanServe, kept_on, pushed_reply, serves_on}
use Rattle.server_top.proofs.Written.{writing_front, writing_part, writing_renamed, writing_written, on_err, on_err_then}
use Rattle.server_top.proofs.replay.serve.serve.Goals as goal
use Rattle.server_top.proofs.replay.serve.serve.Goals.{then-as_slice-ge-PIECE+in_ok-write_text, else-as_slice-ge-PIECE}

pub returns-in_err-push_reply-clause-err : goal.returns-in_err-push_reply-clause-err
returns-in_err-push_reply-clause-err g c = on_err _ _ (writing_front _ _ _ _ _ c.loop-request.invariant.writing)

pub returns-in_err-write_text-clause-err : goal.returns-in_err-write_text-clause-err
returns-in_err-write_text-clause-err g c =
    let waits = pushed_reply _ _ (book_state c.loop-request.book) (book_state c.push_reply.new.book) _ c.push_reply.new.replies c.in-Some.request _ c.next.new.self.waiting _
    c.in-Some.ensures.first c.in_ok-push_reply.ensures.kept c.in_ok-push_reply.ensures.text c.loop-request.invariant.writing in
    on_err _ _ (writing_part _ _ _ _ _ _ waits (subst (AddsPrefix (g.O.Sink.written c.loop-request.output) (g.O.Sink.written c.write_text.new.output)) c.as_slice-then-as_slice-ge-PIECE.ensures c.in_err-write_text.ensures.err))

pub loop-request-preserved : goal.loop-request-preserved
loop-request-preserved g c =
    let waits = pushed_reply (g.O.Sink.written c.args.output.now) (g.O.Sink.written c.loop-request.output) (book_state c.loop-request.book) (book_state c.push_reply.new.book) c.loop-request.replies c.push_reply.new.replies c.in-Some.request c.loop-request.requests.waiting c.next.new.self.waiting (replies_from (book_state c.args.book.now) c.args.requests.now.waiting)
    c.in-Some.ensures.first c.in_ok-push_reply.ensures.kept c.in_ok-push_reply.ensures.text c.loop-request.invariant.writing in
    let can : CanServe (book_state c.push_reply.new.book) c.next.new.self.waiting =
    serves_on (book_state c.loop-request.book) _ c.in-Some.request c.loop-request.requests.waiting _ c.in-Some.ensures.first c.in_ok-push_reply.ensures.kept (record {
      servable = c.loop-request.invariant.servable;
      few = c.loop-request.invariant.few;
      each = c.loop-request.invariant.each;
      serves = refl;
    }) in
    record {
      servable = can.servable;
      few = can.few;
      each = can.each;
      writing = elim c.if-as_slice-ge-PIECE.branch [
        | then-as_slice-ge-PIECE+in_ok-write_text w ↦
            writing_renamed _ (g.O.Sink.written w.write_text.new.output) _ [] _ _ _ (ap (λ o. g.O.Sink.written o) w.output-is) (w.replies-is ∙ w.clear.ensures)
            (writing_written _ _ _ _ _ _ waits (subst (Adds (g.O.Sink.written c.loop-request.output) (g.O.Sink.written w.write_text.new.output)) w.as_slice-then-as_slice-ge-PIECE.ensures w.in_ok-write_text.ensures.ok))
        | else-as_slice-ge-PIECE w ↦ writing_renamed _ (g.O.Sink.written c.loop-request.output) _ c.push_reply.new.replies _ _ _ (ap (λ o. g.O.Sink.written o) w.output-is) w.replies-is waits
      ];
      kept = kept_on (book_state c.loop-request.book) _ _ c.in-Some.request c.loop-request.requests.waiting _ c.in-Some.ensures.first c.in_ok-push_reply.ensures.kept c.loop-request.invariant.kept;
      faults = elim c.if-as_slice-ge-PIECE.branch [
        | then-as_slice-ge-PIECE+in_ok-write_text w ↦ omega (arith, c.loop-request.invariant.faults, w.write_text.ensures.faults, ap (λ o. g.O.Sink.faults o) w.output-is)
        | else-as_slice-ge-PIECE w ↦ omega (arith, c.loop-request.invariant.faults, ap (λ o. g.O.Sink.faults o) w.output-is)
      ];
    }

pub returns-clause-err : goal.returns-clause-err
returns-clause-err g c =
    on_err_then _ _ _ (subst (λ text. OnErr c.write_text-2.result (AddsPrefix (g.O.Sink.written c.loop-request.output) (g.O.Sink.written c.write_text-2.new.output) text)) c.as_slice-2.ensures c.write_text-2.ensures.err)
    (writing_part _ _ _ _ _ _ c.loop-request.invariant.writing)
