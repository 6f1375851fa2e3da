-- The pairs so far and those to come are all, and all have an image.
use Rattle.std.proofs.Common.{◌≡◌, ◌++◌}
use Rattle.image_text.specs.Image.{HasImage}
use Rattle.server_top.specs.ReplayRun.{pairs_in}
use Rattle.server_top.proofs.replay.pairs.copy_pairs.Given as goal

abbrev pub invariant-loop-key : goal.invariant-loop-key
invariant-loop-key l = record {
  copied : l.list ++ pairs_in l.key-iterator ≡ pairs_in l.pairs.entries;
  image : HasImage (pairs_in l.pairs.entries);
}
