use Rattle.std.proofs.Common.{◌≡◌, sym, ◌∙◌, subst, None}
use Rattle.kernel_meaning.specs.CellActs.{before_change}
use Rattle.kernel_meaning.specs.CellAccount.{Clear}
use Rattle.leaf_cell.specs.CellView.{AreUnjoined}
use Rattle.leaf_cell.specs.Standing.{MadeAct}
use Rattle.share_cell.specs.Parts.{MadeWithin}
use Rattle.mark_cell.proofs.BehindChange.{made-cleared}
use Rattle.mark_cell.proofs.acts.clear_pages.Goals.{then-covers, else-covers}
use Rattle.mark_cell.proofs.acts.clear_pages.Goals as goal

pub returns-clause-made : goal.returns-clause-made
returns-clause-made g c = elim c.if-covers.branch [
  | then-covers w ↦ made-cleared g.A.Allot.goes (g.A.Allot.state c.args.allot.now) (g.A.Allot.state c.if-covers.allot)
      (g.A.Allot.state c.clear.new.allot)
      c.args.cell.now c.if-covers.cell c.clear.new.self
      (subst (λ a. MadeWithin g.A.Allot.goes (g.A.Allot.state c.args.allot.now) (g.A.Allot.state a) before_change c.args.cell.now
      c.if-covers.cell) (sym w.allot-is)
      (subst (MadeWithin g.A.Allot.goes (g.A.Allot.state c.args.allot.now) (g.A.Allot.state w.copy_joined.new.allot) before_change
      c.args.cell.now) (sym w.cell-is)
      w.copy_joined.ensures.made))
      (subst (λ v. AreUnjoined v.leaves.kept) (sym w.cell-is) w.copy_joined.ensures.copied.unjoined)
      c.args.first c.args.pages (sym c.covers.ensures.covers ∙ w.if-covers.true) c.clear.ensures.made
  | else-covers w ↦
      subst (λ v. MadeAct g.A.Allot.goes (g.A.Allot.state c.args.allot.now) (g.A.Allot.state c.clear.new.allot)
      (Clear c.args.first c.args.pages) v c.clear.new.self None) w.cell-is
      (subst (λ a. MadeAct g.A.Allot.goes (g.A.Allot.state a) (g.A.Allot.state c.clear.new.allot) (Clear c.args.first c.args.pages)
      c.if-covers.cell c.clear.new.self None) w.allot-is
      c.clear.ensures.made)
]
