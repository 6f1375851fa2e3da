-- The pages of an area are passed over.
use Rattle.std.proofs.Common.{◌+◌, sym, ◌∙◌, subst}
use Rattle.area_list.specs.AreaList.{IsFound}
use Rattle.trace_core.proofs.events.AreaSteps.{outside-behind}
use Rattle.trace_core.proofs.writing.first_outside.Goals as goal

pub loop-page-preserved : goal.loop-page-preserved
loop-page-preserved c =
    sym (outside-behind c.args.areas.now c.loop-page.page (c.args.first + c.args.count) _
    (subst (IsFound c.args.areas.now c.loop-page.page) (sym c.area.view_is) c.in-Some.ensures.found)) ∙ c.loop-page.invariant
