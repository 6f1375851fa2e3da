-- What two calls on a snapshot keep, one after the other.
use Rattle.std.proofs.Common.{refl, ◌∙◌, arith}
use Rattle.vm_base.specs.SnapshotState.{SnapshotState, GoesOn, KeepsSnapshot}

pub goes_on : (one two three : SnapshotState) → GoesOn one two → GoesOn two three → GoesOn one three
goes_on one two three first second = record {
  mem = second.mem ∙ first.mem;
  found = λ cell at is. second.found cell at (first.found cell at is);
  counted = omega (arith, first.counted, second.counted);
  todo = omega (arith, first.todo, second.todo);
  passed = λ is. second.passed (first.passed is);
  whole = λ is. second.whole (first.whole is);
}

pub keeps_on : (one two three : SnapshotState) → KeepsSnapshot one two → KeepsSnapshot two three → KeepsSnapshot one three
keeps_on one two three first second = record {
  goes_on = goes_on one two three first.goes_on second.goes_on;
  cells = second.cells;
  unskipped = second.unskipped;
}

-- what a call leaves stays as it is
pub keeps_itself : (old new : SnapshotState) → KeepsSnapshot old new → KeepsSnapshot new new
keeps_itself old new kept = record {
  goes_on = record {
    mem = refl;
    found = λ cell at is. is;
    counted = omega arith;
    todo = omega arith;
    passed = λ is. is;
    whole = λ is. is;
  };
  cells = kept.cells;
  unskipped = kept.unskipped;
}
