-- Too many after one area more are too many after all.
use Rattle.std.proofs.Common.{◌≡◌, ◌<◌, ◌++◌, length, get_or, take, ap, ◌∙◌, subst}
use Rattle.std.proofs.lemmas.Result.{err_from_is_err_and}
use Rattle.vm_base.specs.FlatStep.{area_between, joined}
use Rattle.area_list.specs.Pieces.{area_below, areas_below}
use Rattle.area_list.proofs.Pushing.{too_many}
use Rattle.area_list.proofs.pieces.push_below.Goals as goal

pub returns-in_err-push_between : goal.returns-in_err-push_between
returns-in_err-push_between c =
    let exit = err_from_is_err_and c.from_residual.result c.from_residual.ensures.1 in
    let inside = c.area.inside in
    let areas = c.args.areas.now in
    let i = c.loop-area.area-index in
    let d = c.area-item.result in
    let piece : area_between inside.first c.min.result inside.perm ≡ area_below c.args.page (get_or areas i d) =
    ap (λ n. area_between inside.first n inside.perm) c.min.ensures ∙ ap (area_below c.args.page) (c.area.view_is ∙ c.area-item.is) in
    rw (exit.1, exit.2) (λ before same.
    let so_far = before ++ areas_below c.args.page (take i areas) in
    let told = c.in_err-push_between.ensures so_far (c.loop-area.invariant before same) in
    (told.0, too_many (area_below c.args.page) before areas i d c.loop-area-test.true (subst (λ more. 128 < length (joined (so_far ++ more))) piece told.1)))
