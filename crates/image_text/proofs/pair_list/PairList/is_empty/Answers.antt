use Rattle.std.proofs.Common.{◌≡◌, ℕ, ◌==◌, length, ap, ◌∙◌, arith}
use Rattle.std.specs.Vec.{vec_len}
use Rattle.image_text.proofs.Buffers.{length-pairs_between}
use Rattle.image_text.proofs.pair_list.PairList.is_empty.Goals as goal

pub returns : goal.returns
returns c =
    let count = length-pairs_between 0 c.self.inside.bytes.items c.self.inside.ends.items in
    let same : vec_len c.self.inside.ends ≡ length c.args.self.now = omega
    (arith, count, ap length c.self.view_is, c.self.inside.ends.ok.0) in
    c.is_empty.ensures ∙ ap (λ (n : ℕ). n == 0) same
