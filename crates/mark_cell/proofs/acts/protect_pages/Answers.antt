use Rattle.std.proofs.Common.{sym, ◌∙◌}
use Rattle.mark_cell.proofs.BehindChange.{made-protected, made-unprotected}
use Rattle.mark_cell.proofs.acts.protect_pages.Goals as goal

pub returns-then-covers-clause-made : goal.returns-then-covers-clause-made
returns-then-covers-clause-made g c = made-protected g.A.Allot.goes (g.A.Allot.state c.args.allot.now)
    (g.A.Allot.state c.copy_joined.new.allot) (g.A.Allot.state c.protect.new.allot)
    c.args.cell.now c.copy_joined.new.cell c.protect.new.self c.copy_joined.ensures.made c.copy_joined.ensures.copied.unjoined
    c.args.first c.args.pages c.args.perm (sym c.covers.ensures.covers ∙ c.if-covers.true) c.protect.ensures.made

pub returns-else-covers-clause-made : goal.returns-else-covers-clause-made
returns-else-covers-clause-made g c = made-unprotected g.A.Allot.goes (g.A.Allot.state c.args.allot.now) c.args.cell.now c.args.first
    c.args.pages c.args.perm
    (sym c.covers.ensures.covers ∙ c.if-covers.false)
