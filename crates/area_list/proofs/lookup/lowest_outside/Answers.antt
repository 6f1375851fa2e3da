-- The page that is reached is the lowest that no area holds.
use Rattle.std.proofs.Common.{◌≡◌, ◌<◌, ◌≤◌, Some, sym, ◌∙◌, ap, subst, drop_of_length-le}
use Rattle.area_list.proofs.Order.{IsFrom-in_order}
use Rattle.area_list.proofs.Found.{reached, outside_reached, outside_nowhere}
use Rattle.area_list.proofs.lookup.lowest_outside.Goals as goal

pub returns-then-page-end : goal.returns-then-page-end
returns-then-page-end c =
    let areas = c.args.areas.now in
    let last : reached c.args.first areas ≡ c.loop-area.page =
    c.loop-area.invariant ∙ ap (reached c.loop-area.page) (drop_of_length-le areas c.loop-area-test.false) in
    ap Some (sym last) ∙ sym (outside_reached c.args.first c.args.end 0 areas (IsFrom-in_order areas c.requires.form.in_order)
    (subst (λ page. page < c.args.end) (sym last) c.if-page-end.true))

pub returns-else-page-end : goal.returns-else-page-end
returns-else-page-end c =
    let areas = c.args.areas.now in
    let last : reached c.args.first areas ≡ c.loop-area.page =
    c.loop-area.invariant ∙ ap (reached c.loop-area.page) (drop_of_length-le areas c.loop-area-test.false) in
    sym (outside_nowhere c.args.first c.args.end 0 areas (IsFrom-in_order areas c.requires.form.in_order) c.requires.some
    (subst (λ page. c.args.end ≤ page) (sym last) c.if-page-end.false))
