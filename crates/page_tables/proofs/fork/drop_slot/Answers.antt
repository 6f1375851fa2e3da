use Rattle.std.proofs.Common.{◌≡◌, sym, ◌∙◌, arith}
use Rattle.kernel_meaning.specs.Leaves.{share}
use Rattle.leaf_cell.specs.CellView.{held_of}
use Rattle.leaf_cell.proofs.HeldShare.{share-stands}
use Rattle.page_tables.proofs.ForkSlots.{drop-returns}
use Rattle.page_tables.proofs.Known.{known-number}
use Rattle.page_tables.proofs.fork.drop_slot.Goals as goal

pub returns-clause-returned : goal.returns-clause-returned
returns-clause-returned g c = drop-returns g.A.Allot.goes _ _ c.args.number c.args.slot.now _ c.requires.known c.drop_snap.ensures.made

pub returns-clause-even : goal.returns-clause-even
returns-clause-even g c =
    known-number c.requires.known (λ it.
    let account = it.0 in
    let stands = it.1 in
    let takes = c.drop_snap.ensures.made.follows account stands in
    let before : held_of c.args.slot.now.cell ≡ share c.args.slot.now.cell.leaves = c.tell_share.ensures account stands ∙ sym (share-stands c.args.slot.now.cell account stands) in
    let after : held_of c.drop_snap.new.self ≡ share c.drop_snap.new.self.leaves = c.tell_share-2.ensures _ takes.stands ∙ sym (share-stands c.drop_snap.new.self _ takes.stands) in
    omega (arith, before, after))
