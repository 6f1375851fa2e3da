-- All places are made, where none was.
use Rattle.std.proofs.Common.{◌≡◌, length, replicate, Option, None, sym, ◌∙◌, ap, arith}
use Rattle.std.proofs.lemmas.Bool.{eqb-true}
use Rattle.vm_base.specs.Frames.{FrameView}
use Rattle.leaf_cell.specs.FramePlaces.{opened}
use Rattle.leaf_cell.proofs.OpenedPlaces.{slots-none}
use Rattle.leaf_cell.proofs.frame_places.open.Goals as goal

pub returns-after-loop-made-clause-opened : goal.returns-after-loop-made-clause-opened
returns-after-loop-made-clause-opened c =
    let all : c.loop-made._made ≡ 1024 = omega arith in
    let empty = eqb-true c.args.slots.now.len 0 (sym c.is_empty.ensures ∙ c.if-is_empty.true) in
    let none : length c.args.slots.now.items ≡ 0 = omega (arith, empty) in
    c.loop-made.invariant.made ∙ ap (λ n. replicate {A = Option FrameView} n None) all
    ∙ sym (ap opened (slots-none c.args.slots.now.items none))
