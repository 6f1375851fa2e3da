-- The pieces are those below, the one between and those from the end on.
use Rattle.std.proofs.Common.{[], ◌++◌, arith}
use Rattle.std.proofs.lemmas.Result.{err_from_is_err_and}
use Rattle.area_list.specs.Pieces.{areas_below, areas_from, area_or_none}
use Rattle.area_list.proofs.Joining.{length-joined}
use Rattle.area_list.proofs.pieces.push_pieces.Goals as goal

pub returns-in_err-push_below : goal.returns-in_err-push_below
returns-in_err-push_below c =
    let exit = err_from_is_err_and c.from_residual.result c.from_residual.ensures.1 in
    let below = areas_below c.args.first c.args.areas.now in
    let some = area_or_none c.args.between in
    let told = c.in_err-push_below.ensures [] c.requires.empty in
    rw (exit.1, exit.2)
    (told.0, omega (arith, told.1, length-joined below some, length-joined (below ++ some) (areas_from c.args.end c.args.areas.now)))

pub returns-in_err-push_if_some : goal.returns-in_err-push_if_some
returns-in_err-push_if_some c =
    let exit = err_from_is_err_and c.from_residual-in_err-push_if_some.result c.from_residual-in_err-push_if_some.ensures.1 in
    let below = areas_below c.args.first c.args.areas.now in
    let some = area_or_none c.args.between in
    let told = c.in_err-push_if_some.ensures below (c.in_ok-push_below.ensures [] c.requires.empty) in
    rw (exit.1, exit.2) (told.0, omega (arith, told.1, length-joined (below ++ some) (areas_from c.args.end c.args.areas.now)))

pub returns : goal.returns
returns c =
    let below = areas_below c.args.first c.args.areas.now in
    let some = area_or_none c.args.between in
    c.push_from.ensures (below ++ some) (c.in_ok-push_if_some.ensures below (c.in_ok-push_below.ensures [] c.requires.empty))
