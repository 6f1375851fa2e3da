use Rattle.std.proofs.Common.{length, ap, arith}
use Rattle.image_text.proofs.Buffers.{length-pairs_between}
use Rattle.image_text.proofs.pair_list.PairList.len.Goals as goal

pub returns-clause-count : goal.returns-clause-count
returns-clause-count c =
    let count = length-pairs_between 0 c.self.inside.bytes.items c.self.inside.ends.items in
    omega (arith, count, ap length c.self.view_is, c.self.inside.ends.ok.0)
