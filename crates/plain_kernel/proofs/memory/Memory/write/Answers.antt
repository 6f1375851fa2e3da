-- The pages that are stored to have been touched.
use Rattle.std.proofs.Common.{◌<◌, ◌+◌, ◌/◌, ◌∙◌, ap, arith}
use Rattle.std.specs.Prelude.{is_some}
use Rattle.std.specs.FinMap.{get}
use Rattle.vm_base.proofs.FlatPages.{is_some-with_pages}
use Rattle.plain_kernel.proofs.memory.Memory.write.Goals as goal

pub store_range-requires-clause-present : goal.store_range-requires-clause-present
store_range-requires-clause-present c page above below =
    let inside : page < c.args.addr / 4096 + c.page_count-count.result = omega (arith, c.page_count-count.ensures.whole) in
    ap (λ m. is_some (get m page)) c.in-Ok.ensures.ok ∙ is_some-with_pages c.page_count-count.result c.self.inside.pages (c.args.addr / 4096) page above inside
