-- All places have been made.
use Rattle.std.proofs.Common.{◌≡◌, ◌∙◌, ap, arith, replicate, None}
use Rattle.table_levels.specs.Walks.{Place}
use Rattle.table_levels.proofs.directory.empty_places.Goals as goal

pub returns : goal.returns
returns c =
    let all : c.loop-made._made ≡ 512 = omega arith in
    c.loop-made.invariant.made ∙ ap (λ n. let free : Place = None in replicate n free) all
