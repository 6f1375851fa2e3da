use Rattle.std.proofs.Common.{◌≤◌, take}
use Rattle.std.specs.List.{flat_map}
use Rattle.io_face.specs.Told.{Adds}
use Rattle.image_text.specs.Image.{pair_text}
use Rattle.image_text.proofs.write.write_pairs.Given as goal

abbrev pub invariant-loop-i : goal.invariant-loop-i
invariant-loop-i g l = record {
  written : Adds (g.K.Sink.written l.fn.sink) (g.K.Sink.written l.sink) (flat_map pair_text
      (take l.i l.pairs));
  faults : g.K.Sink.faults l.fn.sink ≤ g.K.Sink.faults l.sink;
}
