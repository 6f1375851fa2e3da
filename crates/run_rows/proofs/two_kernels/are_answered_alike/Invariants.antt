-- The accesses so far left the plain kernel's snapshots, and gave no number.
use Rattle.std.proofs.Common.{◌≡◌, ◌≤◌}
use Rattle.run_rows.proofs.two_kernels.are_answered_alike.Given as goal

abbrev pub invariant-loop : goal.invariant-loop
invariant-loop g l = record {
  snapshots : l.plain.snapshots ≡ l.fn.plain.snapshots;
  last : l.plain.last ≡ l.fn.plain.last;
  given : l.framed.parts.last ≤ l.fn.framed.parts.last;
}
