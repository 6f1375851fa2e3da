use Rattle.std.proofs.Common.{◌≡◌, refl, sym, ◌∙◌, ap, subst, cond, replicate, arith}
use Rattle.std.specs.Prelude.{true, false}
use Rattle.vm_base.specs.declared.frame_request.Want.TheVariants as want
use Rattle.vm_base.specs.Deals.{LeadsAlong}
use Rattle.kernel_meaning.specs.Leaves.{has_pages}
use Rattle.table_levels.specs.Requests.{granted, Asks}
use Rattle.page_tables.proofs.ForkSlots.{unforked-becomes, fork-becomes-ok, fork-asks}
use Rattle.kernel_meaning.specs.Leaves.{share}
use Rattle.leaf_cell.specs.CellView.{held_of}
use Rattle.leaf_cell.proofs.HeldShare.{share-stands}
use Rattle.leaf_cell.specs.Writable.{none_writable}
use Rattle.page_tables.proofs.KeptWriting.{granted-so}
use Rattle.page_tables.proofs.Known.{known-number}
use Rattle.page_tables.proofs.fork.fork_slot.Goals as goal

pub returns-then-not-has_pages-clause-forked : goal.returns-then-not-has_pages-clause-forked
returns-then-not-has_pages-clause-forked g c =
    unforked-becomes c.args.number c.args.slot.now (sym c.has_pages.ensures.pages ∙ c.if-not-has_pages.true)

pub returns-then-not-has_pages-clause-requests : goal.returns-then-not-has_pages-clause-requests
returns-then-not-has_pages-clause-requests g c =
    let none : has_pages c.args.slot.now.cell.leaves.parent ≡ false = sym c.has_pages.ensures.pages ∙ c.if-not-has_pages.true in
    subst (λ b. LeadsAlong g.A.Allot.goes (g.A.Allot.state c.args.allot.now) (granted (replicate (cond b 1 0) want.Leaf)) (g.A.Allot.state c.args.allot.now)) (sym none) refl

pub fork_eager-answer-requires-clause-present : goal.fork_eager-answer-requires-clause-present
fork_eager-answer-requires-clause-present g c = sym c.has_pages.ensures.pages ∙ c.if-not-has_pages.false

pub returns-clause-forked : goal.returns-clause-forked
returns-clause-forked g c =
    let there : has_pages c.args.slot.now.cell.leaves.parent ≡ true = sym c.has_pages.ensures.pages ∙ c.if-not-has_pages.false in
    fork-becomes-ok g.A.Allot.goes _ _ c.args.number c.args.slot.now c.fork_eager-answer.new.self c.requires.alone there c.fork_eager-answer.result c.fork_eager-answer.ensures.leaves
    (c.fork_eager-answer.ensures.made 0)

pub returns-clause-requests : goal.returns-clause-requests
returns-clause-requests g c =
    let there : has_pages c.args.slot.now.cell.leaves.parent ≡ true = sym c.has_pages.ensures.pages ∙ c.if-not-has_pages.false in
    subst (λ b. Asks g.A.Allot.goes (g.A.Allot.state c.args.allot.now) (replicate (cond b 1 0) want.Leaf) c.fork_eager-answer.result (g.A.Allot.state c.fork_eager-answer.new.allot)) (sym there)
    (fork-asks g.A.Allot.goes _ _ c.args.number c.args.slot.now.cell c.fork_eager-answer.new.self c.requires.known c.fork_eager-answer.result (c.fork_eager-answer.ensures.made 0))

pub returns-clause-even : goal.returns-clause-even
returns-clause-even g c =
    known-number c.requires.known (λ it.
    let account = it.0 in
    let stands = it.1 in
    let takes = (c.fork_eager-answer.ensures.made 0).follows account stands in
    let before : held_of c.args.slot.now.cell ≡ share c.args.slot.now.cell.leaves = c.tell_share.ensures account stands ∙ sym (share-stands c.args.slot.now.cell account stands) in
    let after : held_of c.fork_eager-answer.new.self ≡ share c.fork_eager-answer.new.self.leaves =
    c.tell_share-2.ensures _ takes.stands ∙ sym (share-stands c.fork_eager-answer.new.self _ takes.stands) in
    omega (arith, before, after))

pub returns-then-not-has_pages-clause-bits : goal.returns-then-not-has_pages-clause-bits
returns-then-not-has_pages-clause-bits g c =
    sym (ap (λ b. cond b none_writable c.args.slot.now.cell.writable) (sym c.has_pages.ensures.pages ∙ c.if-not-has_pages.true))

pub returns-clause-bits : goal.returns-clause-bits
returns-clause-bits g c =
    let there : has_pages c.args.slot.now.cell.leaves.parent ≡ true = sym c.has_pages.ensures.pages ∙ c.if-not-has_pages.false in
    granted-so c.fork_eager-answer.result c.fork_eager-answer.ensures.writable (λ none. none ∙ sym (ap (λ b. cond b none_writable c.args.slot.now.cell.writable) there))
