use Rattle.std.proofs.Common.{◌≡◌, sym, ◌∙◌, subst}
use Rattle.kernel_meaning.specs.CellActs.{before_change}
use Rattle.kernel_meaning.specs.CellAccount.{Touch}
use Rattle.leaf_cell.specs.CellView.{AreUnjoined}
use Rattle.leaf_cell.specs.Standing.{MadeAct}
use Rattle.leaf_cell.specs.States.{refused_count}
use Rattle.share_cell.specs.Parts.{MadeWithin}
use Rattle.mark_cell.specs.Changes.{BehindCopies, CopiesJoined, TouchEnds}
use Rattle.mark_cell.proofs.BehindChange.{made-touched}
use Rattle.mark_cell.proofs.JoinedCopies.{copies-none, touch-ends}
use Rattle.mark_cell.proofs.acts.touch_page.Goals.{then-has_pages, else-has_pages}
use Rattle.mark_cell.proofs.acts.touch_page.Goals as goal

pub returns-clause-made : goal.returns-clause-made
returns-clause-made g c = elim c.if-has_pages.branch [
  | then-has_pages w ↦ made-touched g.A.Allot.goes (g.A.Allot.state c.args.allot.now) (g.A.Allot.state c.if-has_pages.allot)
      (g.A.Allot.state c.touch.new.allot)
      c.args.cell.now c.if-has_pages.cell c.touch.new.self
      (subst (λ a. MadeWithin g.A.Allot.goes (g.A.Allot.state c.args.allot.now) (g.A.Allot.state a) before_change c.args.cell.now
      c.if-has_pages.cell) (sym w.allot-is)
      (subst (MadeWithin g.A.Allot.goes (g.A.Allot.state c.args.allot.now) (g.A.Allot.state w.copy_joined.new.allot) before_change
      c.args.cell.now) (sym w.cell-is)
      w.copy_joined.ensures.made))
      (subst (λ v. AreUnjoined v.leaves.kept) (sym w.cell-is) w.copy_joined.ensures.copied.unjoined)
      c.args.page (refused_count c.touch.result) (sym c.has_pages.ensures.pages ∙ w.if-has_pages.true) c.touch.ensures.made
  | else-has_pages w ↦
      subst (λ v. MadeAct g.A.Allot.goes (g.A.Allot.state c.args.allot.now) (g.A.Allot.state c.touch.new.allot) (Touch c.args.page) v
      c.touch.new.self (refused_count c.touch.result)) w.cell-is
      (subst (λ a. MadeAct g.A.Allot.goes (g.A.Allot.state a) (g.A.Allot.state c.touch.new.allot) (Touch c.args.page) c.if-has_pages.cell
      c.touch.new.self (refused_count c.touch.result)) w.allot-is
      c.touch.ensures.made)
]

pub returns-clause-ends : goal.returns-clause-ends
returns-clause-ends g c = record {
  count = g.A.Allot.refused (g.A.Allot.state c.if-has_pages.allot);
  between = c.if-has_pages.cell;
  copies = elim c.if-has_pages.branch [
    | then-has_pages w ↦
        subst (λ a. CopiesJoined (g.A.Allot.refused (g.A.Allot.state c.args.allot.now)) (g.A.Allot.refused (g.A.Allot.state a))
        c.args.cell.now c.if-has_pages.cell) (sym w.allot-is)
        (subst (CopiesJoined (g.A.Allot.refused (g.A.Allot.state c.args.allot.now))
        (g.A.Allot.refused (g.A.Allot.state w.copy_joined.new.allot)) c.args.cell.now) (sym w.cell-is)
        w.copy_joined.ensures.copied)
    | else-has_pages w ↦
        subst (λ a. CopiesJoined (g.A.Allot.refused (g.A.Allot.state c.args.allot.now)) (g.A.Allot.refused (g.A.Allot.state a))
        c.args.cell.now c.if-has_pages.cell) (sym w.allot-is)
        (subst (CopiesJoined (g.A.Allot.refused (g.A.Allot.state c.args.allot.now)) (g.A.Allot.refused (g.A.Allot.state c.args.allot.now))
        c.args.cell.now) (sym w.cell-is)
        (copies-none (g.A.Allot.refused (g.A.Allot.state c.args.allot.now)) c.args.cell.now
        (c.has_pages.ensures.unjoined (sym c.has_pages.ensures.pages ∙ w.if-has_pages.false))))
  ];
  ends = touch-ends c.args.page (g.A.Allot.refused (g.A.Allot.state c.if-has_pages.allot))
      (g.A.Allot.refused (g.A.Allot.state c.touch.new.allot)) c.if-has_pages.cell c.touch.new.self
      c.touch.result c.touch.ensures.touched c.touch.ensures.writable c.touch.ensures.allowed c.touch.ensures.refused
      c.touch.ensures.counted;
}
