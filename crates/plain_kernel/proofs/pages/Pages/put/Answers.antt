-- To fill the slot is to insert the page.
use Rattle.std.proofs.Common.{◌∙◌, ap, arith}
use Rattle.std.specs.FinMap as map
use Rattle.plain_kernel.proofs.Slots.{present_from-set}
use Rattle.plain_kernel.proofs.pages.Pages.put.Goals as goal

pub returns : goal.returns
returns c = present_from-set c.self.inside.slots.items c.args.page c.args.bytes (omega arith) ∙ ap (λ m. map.insert m c.args.page c.args.bytes) c.self.view_is
