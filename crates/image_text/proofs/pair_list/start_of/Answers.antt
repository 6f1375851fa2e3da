use Rattle.std.proofs.Common.{◌≡◌, ◌-◌, suc, sym, ap, ◌∙◌, arith}
use Rattle.image_text.specs.Pairs.{pair_start}
use Rattle.image_text.proofs.Buffers.{pair_start-suc}
use Rattle.image_text.proofs.pair_list.start_of.Goals as goal

pub returns-else-i-eq0 : goal.returns-else-i-eq0
returns-else-i-eq0 c =
    let ends = c.args.ends.now in
    let same : suc (c.args.i - 1) ≡ c.args.i = omega (arith, c.if-i-eq0.false) in
    sym (pair_start-suc 0 ends (c.args.i - 1) _ (omega (arith, c.requires)))
    ∙ ap (pair_start 0 ends) same
