-- Too many after one area more are too many after all.
use Rattle.std.proofs.Common.{◌≡◌, ◌+◌, ◌<◌, ◌++◌, length, get_or, take, ap, ◌∙◌, subst}
use Rattle.std.proofs.lemmas.Result.{err_from_is_err_and}
use Rattle.vm_base.specs.FlatStep.{area_between, joined}
use Rattle.area_list.specs.Pieces.{area_from, areas_from}
use Rattle.area_list.proofs.Pushing.{too_many}
use Rattle.area_list.proofs.pieces.push_from.Goals as goal

pub returns-in_err-push_between : goal.returns-in_err-push_between
returns-in_err-push_between c =
    let exit = err_from_is_err_and c.from_residual.result c.from_residual.ensures.1 in
    let inside = c.area.inside in
    let areas = c.args.areas.now in
    let i = c.loop-area.area-index in
    let d = c.area-item.result in
    let piece : area_between c.max.result (inside.first + inside.pages) inside.perm ≡ area_from c.args.page (get_or areas i d) =
    ap (λ n. area_between n (inside.first + inside.pages) inside.perm) c.max.ensures ∙ ap (area_from c.args.page) (c.area.view_is ∙ c.area-item.is) in
    rw (exit.1, exit.2) (λ before same.
    let so_far = before ++ areas_from c.args.page (take i areas) in
    let told = c.in_err-push_between.ensures so_far (c.loop-area.invariant before same) in
    (told.0, too_many (area_from c.args.page) before areas i d c.loop-area-test.true (subst (λ more. 128 < length (joined (so_far ++ more))) piece told.1)))
