-- Slots without a page are the empty map.
use Rattle.std.proofs.Common.{◌∙◌, ap}
use Rattle.plain_kernel.proofs.Slots.{present_from-nothing, slots_without_pages}
use Rattle.plain_kernel.specs.Pages.{present_from}
use Rattle.plain_kernel.proofs.pages.Pages.new.Goals as goal

pub invariant_of-result : goal.invariant_of-result
invariant_of-result c = rw c.in_ok-slots.ensures slots_without_pages

pub returns : goal.returns
returns c = ap (present_from 0) c.in_ok-slots.ensures ∙ present_from-nothing 512 0
