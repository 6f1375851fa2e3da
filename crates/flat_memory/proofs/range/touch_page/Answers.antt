-- There is room for one page more.
use Rattle.std.proofs.Common.{◌≡◌, ◌+◌, false, sym, ◌∙◌, ap, arith}
use Rattle.std.specs.Cmp.{nat_cmp_total}
use Rattle.std.specs.Prelude.{is_some}
use Rattle.std.specs.FinMap.{get, len, len-insert}
use Rattle.std.proofs.lemmas.Bool.{cond-false}
use Rattle.vm_base.specs.FlatMemory.{zero_page}
use Rattle.vm_base.specs.FlatStep.{with_page}
use Rattle.vm_base.proofs.FlatPages.{with_page_absent}
use Rattle.flat_memory.proofs.range.touch_page.Goals as goal

pub add-requires-clause-free : goal.add-requires-clause-free
add-requires-clause-free c =
    let present = c.args.pages.now.present in
    let absent : is_some (get present c.args.page) ≡ false = sym c.contains.ensures ∙ c.if-not-contains.true in
    let more : len (with_page present c.args.page) ≡ len present + 1 =
    ap len (with_page_absent present c.args.page absent) ∙ len-insert nat_cmp_total present c.args.page zero_page
    ∙ cond-false (is_some (get present c.args.page)) _ _ absent in
    omega (arith, more, c.requires)
