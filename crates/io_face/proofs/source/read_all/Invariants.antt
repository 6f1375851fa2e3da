use Rattle.std.proofs.Common.{length, ◌+◌, ◌≡◌, vec_len}
use Rattle.io_face.specs.Told.{Takes}
use Rattle.io_face.specs.declared.source.TheConstants.{PIECE}
use Rattle.io_face.proofs.source.read_all.Given as goal

abbrev pub invariant-loop-count : goal.invariant-loop-count
invariant-loop-count g l = record {
  within : length l.text + l.room ≡ l.limit;
  taken : Takes (g.S.Source.left l.fn.source) (g.S.Source.left l.source) l.text;
  faults : g.S.Source.faults l.source ≡ g.S.Source.faults l.fn.source;
  piece : vec_len l.piece ≡ PIECE;
}

abbrev pub decreases-loop-count : goal.decreases-loop-count
decreases-loop-count g l = l.room
