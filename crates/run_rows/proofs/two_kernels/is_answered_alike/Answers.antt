-- An event beyond the bounds is not run, and leaves the last number.
use Rattle.trace_events.specs.EventBounds.{fork_number}
use Rattle.run_rows.proofs.UnforkedNumbers.{at-most-unrun}
use Rattle.run_rows.proofs.two_kernels.is_answered_alike.Goals as goal

pub returns-then-not-is_within_bounds-clause-last : goal.returns-then-not-is_within_bounds-clause-last
returns-then-not-is_within_bounds-clause-last g c = at-most-unrun (fork_number c.args.event.now) _ c.requires.numbered
