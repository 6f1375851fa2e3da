use Rattle.std.proofs.Common.{length, ap, arith}
use Rattle.image_text.proofs.Buffers.{length-pairs_between}
use Rattle.image_text.proofs.pair_list.PairList.key_and_value.Goals as goal

pub pair_at-requires-clause-within : goal.pair_at-requires-clause-within
pair_at-requires-clause-within c =
    let count = length-pairs_between 0 c.self.inside.bytes.items c.self.inside.ends.items in
    omega (arith, count, ap length c.self.view_is, ap length c.deref-2.ensures.value, c.requires)
