use Rattle.std.proofs.Common.{◌≡◌, ℕ, ◌∙◌, sym, ap, subst, arith}
use Rattle.vm_base.specs.Counts.{Rose}
use Rattle.kernel_meaning.specs.CellActs.{is_number}
use Rattle.leaf_cell.specs.CellView.{CellView}
use Rattle.share_cell.specs.Copies.{Copies}
use Rattle.share_cell.proofs.CopiedLeaves.{copies-owned, copies-lost}
use Rattle.share_cell.proofs.OneLeaf.{made-owned, made-refused}
use Rattle.share_cell.proofs.copies.copy_leaf.Goals as goal

pub returns-in-Ok-clause-made : goal.returns-in-Ok-clause-made
returns-in-Ok-clause-made g c = made-owned g.A.Allot.goes (g.A.Allot.state c.args.allot.now) c.args.number c.args.cell.now
    c.own_leaf.new.self (g.A.Allot.state c.take.new.self)
    c.in-Ok.ensures.granted c.own_leaf.ensures.owned

pub returns-in-Ok-clause-copied : goal.returns-in-Ok-clause-copied
returns-in-Ok-clause-copied g c = subst (Copies (is_number c.args.number) (g.A.Allot.refused (g.A.Allot.state c.args.allot.now))
    (g.A.Allot.refused (g.A.Allot.state c.take.new.self)) c.args.cell.now)
    (sym c.own_leaf.ensures.cell)
    (copies-owned c.args.number c.args.cell.now c.requires.rising c.requires.joined (g.A.Allot.refused (g.A.Allot.state c.args.allot.now))
    (g.A.Allot.refused (g.A.Allot.state c.take.new.self))
    c.in-Ok.ensures.unrefused)

pub returns-in-Err-clause-made : goal.returns-in-Err-clause-made
returns-in-Err-clause-made g c = made-refused g.A.Allot.goes (g.A.Allot.state c.args.allot.now) c.args.number c.args.cell.now
    c.lose.new.self (g.A.Allot.state c.take.new.self)
    (g.A.Allot.state c.lose.new.allot) c.in-Err.refused.at c.in-Err.ensures.denied c.lose.ensures.made

pub returns-in-Err-clause-copied : goal.returns-in-Err-clause-copied
returns-in-Err-clause-copied g c =
    let from : ℕ = g.A.Allot.refused (g.A.Allot.state c.args.allot.now) in
    let at : ℕ = c.in-Err.refused.at in
    let rose : Rose from at = omega (arith, c.in-Err.ensures.at, c.in-Err.ensures.counted) in
    copies-lost c.args.number at c.args.cell.now c.lose.new.self c.lose.ensures.lost c.lose.ensures.writable from
    (g.A.Allot.refused (g.A.Allot.state c.lose.new.allot))
    rose (c.in-Err.ensures.at ∙ sym c.lose.ensures.unrefused) (omega (arith, c.in-Err.ensures.at, c.in-Err.ensures.counted))
