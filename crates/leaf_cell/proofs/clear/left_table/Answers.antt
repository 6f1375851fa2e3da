use Rattle.std.proofs.Common.{◌≡◌, ◌∙◌, ap, sym, refl, Some, None}
use Rattle.std.specs.Prelude.{cond, true, false}
use Rattle.kernel_meaning.specs.Leaves.{Versions, has_pages, without_versions}
use Rattle.leaf_cell.specs.Places.{without_entries}
use Rattle.leaf_cell.proofs.clear.left_table.Goals as goal

pub returns-then-is_empty-clause-left : goal.returns-then-is_empty-clause-left
returns-then-is_empty-clause-left g c =
    let left : Versions = without_versions c.args.table.places c.args.first c.args.pages in
    let none : has_pages left ≡ false = ap (λ table. has_pages table.places) (sym c.clear.ensures) ∙ sym c.has_pages-is_empty.ensures ∙ c.if-is_empty.true in
    record {
      left = sym (ap (λ b. cond b (Some (without_entries c.args.table c.args.first c.args.pages)) None) none);
      led = (g.A.Allot.state c.give.new.self, (c.give.ensures.returned, refl));
    }

pub returns-else-is_empty-clause-left : goal.returns-else-is_empty-clause-left
returns-else-is_empty-clause-left g c =
    let left : Versions = without_versions c.args.table.places c.args.first c.args.pages in
    let some : has_pages left ≡ true = ap (λ table. has_pages table.places) (sym c.clear.ensures) ∙ sym c.has_pages-is_empty.ensures ∙ c.if-is_empty.false in
    record {
      left = ap Some c.clear.ensures ∙ sym (ap (λ b. cond b (Some (without_entries c.args.table c.args.first c.args.pages)) None) some);
      led = refl;
    }
