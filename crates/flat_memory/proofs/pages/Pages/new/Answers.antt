-- No entry is no page.
use Rattle.std.proofs.Common.{arith}
use Rattle.flat_memory.proofs.PageLemmas.{map-none, same_table}
use Rattle.flat_memory.proofs.pages.Pages.new.Goals as goal

pub returns : goal.returns
returns c = same_table _ _ (map-none c.in_ok-entries.entries.items c.in_ok-entries.ensures.items)
    (omega (arith, c.in_ok-entries.ensures.len, c.in_ok-spare.ensures.len))
