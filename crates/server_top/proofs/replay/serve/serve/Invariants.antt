-- The replies so far, those that wait and those to come are all; the requests to come find a book that can serve them.
use Rattle.std.proofs.Common.{◌≡◌, ◌≤◌, ◌+◌, ◌^◌, length}
use Rattle.std.specs.List.{AllByRecursion}
use Rattle.std.specs.FinMap.{entries, len}
use Rattle.image_text.specs.Image.{FitsImage}
use Rattle.server_top.specs.ReplayRun.{kept_behind, book_state, replies_from, IsServable}
use Rattle.server_top.proofs.Written.{Writing}
use Rattle.server_top.proofs.replay.serve.serve.Given as goal

abbrev pub invariant-loop-request : goal.invariant-loop-request
invariant-loop-request g l = record {
  servable : AllByRecursion IsServable l.requests.waiting;
  few : len (book_state l.book).service.pairs + length l.requests.waiting ≤ 2 ^ 28;
  each : AllByRecursion FitsImage (entries (book_state l.book).service.pairs);
  writing : Writing (g.O.Sink.written l.fn.output) (g.O.Sink.written l.output) l.replies
      (replies_from (book_state l.book) l.requests.waiting) (replies_from (book_state l.fn.book) l.fn.requests.waiting);
  kept : kept_behind (book_state l.book) l.requests.waiting ≡ kept_behind (book_state l.fn.book) l.fn.requests.waiting;
  faults : g.O.Sink.faults l.fn.output ≤ g.O.Sink.faults l.output;
}

abbrev pub decreases-loop-request : goal.decreases-loop-request
decreases-loop-request g l = length l.requests.waiting
