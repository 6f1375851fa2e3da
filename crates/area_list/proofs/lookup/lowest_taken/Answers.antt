-- The first area that meets the range has its lowest page there.
use Rattle.std.proofs.Common.{◌≡◌, ◌+◌, ◌<◌, max, Some, None, get_or, sym, ◌∙◌, ap, subst, drop_of_length-le}
use Rattle.vm_base.specs.FlatMemory.{Area}
use Rattle.area_list.specs.contracts.area.Area.{the_view}
use Rattle.area_list.proofs.Order.{IsFrom-in_order}
use Rattle.area_list.proofs.Found.{first_meeting, first_meeting-taken, meeting_found}
use Rattle.area_list.proofs.lookup.lowest_taken.Goals as goal

pub returns-then-area-end : goal.returns-then-area-end
returns-then-area-end c =
    let areas = c.args.areas.now in
    let i = c.loop-area.area-index in
    let d = c.area-item.result in
    let same : the_view c.area.inside ≡ get_or areas i d = c.area.view_is ∙ c.area-item.is in
    let found : first_meeting c.args.first c.args.end areas ≡ Some (max c.args.first (get_or areas i d).first) =
    meeting_found c.args.first c.args.end areas i d c.loop-area-test.true c.loop-area.invariant
    (subst (λ (a : Area). c.args.first < a.first + a.pages) same c.if-first-area.true)
    (subst (λ (a : Area). a.first < c.args.end) same c.if-area-end.true) in
    ap Some (c.max.ensures ∙ ap (λ (a : Area). max c.args.first a.first) same) ∙ sym found
    ∙ first_meeting-taken c.args.first c.args.end 0 areas c.requires.some (IsFrom-in_order areas c.requires.form.in_order)

pub returns : goal.returns
returns c =
    let areas = c.args.areas.now in
    let none : first_meeting c.args.first c.args.end areas ≡ None =
    c.loop-area.invariant ∙ ap (first_meeting c.args.first c.args.end) (drop_of_length-le areas c.loop-area-test.false) in
    sym none ∙ first_meeting-taken c.args.first c.args.end 0 areas c.requires.some (IsFrom-in_order areas c.requires.form.in_order)
