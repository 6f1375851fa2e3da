use Rattle.frame_pool.proofs.PlaceLemmas.{at_one_place-opening, at_one_place-taken, at_one_place-kept, at_one_place-given, room-out, free_and_out}
use Rattle.frame_pool.proofs.laws.each_frame_is_at_one_place.Goals as goal

pub returns : goal.returns
returns c = record {
  opened = at_one_place-opening;
  taken = at_one_place-taken;
  refused = at_one_place-kept;
  given = at_one_place-given;
  room = room-out;
  count = free_and_out;
}
