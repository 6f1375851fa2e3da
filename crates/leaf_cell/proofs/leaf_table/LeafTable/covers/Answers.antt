use Rattle.std.proofs.Common.{sym, ap, ◌∙◌, ◌≡◌, ◌+◌, ◌-◌, arith}
use Rattle.std.specs.Prelude.{is_some}
use Rattle.kernel_meaning.specs.Leaves.{version_at, has_present}
use Rattle.leaf_cell.proofs.AbsentPages.{has_present-there, has_present-none}
use Rattle.leaf_cell.proofs.leaf_table.LeafTable.covers.Goals as goal

pub returns-then-is_some : goal.returns-then-is_some
returns-then-is_some c =
    let place : c.args.first + (c.loop-page.page - c.args.first) ≡ c.loop-page.page = omega (arith, c.loop-page.auto.page) in
    sym (has_present-there c.args.self.now.places c.args.first (c.loop-page.page - c.args.first) c.args.pages (omega (arith, c.loop-page.auto.page, c.loop-page-test.true))
    (ap (λ p. is_some (version_at c.args.self.now.places p)) place ∙ ap is_some (sym c.get.ensures) ∙ sym c.is_some.ensures ∙ c.if-is_some.true))

pub loop-page-preserved : goal.loop-page-preserved
loop-page-preserved c =
    let place : c.args.first + (c.loop-page.page - c.args.first) ≡ c.loop-page.page = omega (arith, c.loop-page.auto.page) in
    let next : c.loop-page.page + 1 - c.args.first ≡ c.loop-page.page - c.args.first + 1 = omega (arith, c.loop-page.auto.page) in
    ap (has_present c.args.self.now.places c.args.first) next
    ∙ has_present-none c.args.self.now.places c.args.first (c.loop-page.page - c.args.first) c.loop-page.page place c.loop-page.invariant
    (ap is_some (sym c.get.ensures) ∙ sym c.is_some.ensures ∙ c.if-is_some.false)
