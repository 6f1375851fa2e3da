-- The slots of one middle table.
use Rattle.std.proofs.Common.{◌≡◌, ◌/◌, ◌%◌, ◌^◌, ◌<◌, Some, None, length, sym, ◌∙◌, subst, arith}
use Rattle.table_levels.specs.First.{IsFirst}
use Rattle.table_levels.specs.Walks.{entry_in, levels_of, middle_of, table_at}
use Rattle.table_levels.proofs.Walking.{table_at-get}
use Rattle.table_levels.proofs.FoundFirst.{beside_some, beside_none}
use Rattle.table_levels.proofs.search.first_beside.Goals as goal

pub returns : goal.returns
returns c =
    let levels = levels_of c.args.top.now c.args.uppers.now c.args.middles.now in
    let at : middle_of levels (c.args.from / 512) ≡ Some c.in_ok-place.place = sym c.place_of.ensures ∙ c.in_ok-place.was in
    let below : c.args.from / 512 < 2 ^ 18 = omega (arith, c.requires.cell) in
    let inside : c.in_ok-place.place < length levels.middles = omega (arith, (c.requires.directory.middle_there (c.args.from / 512) c.in_ok-place.place below at).0, c.requires.directory.middles) in
    let table : c.index-middles-place.result ≡ table_at levels.middles c.in_ok-place.place = c.index-middles-place.is ∙ sym (table_at-get levels.middles c.in_ok-place.place c.index-middles-place.result inside) in
    beside_some levels c.args.from c.in_ok-place.place c.in_ok-i.i c.in_ok-i.slot at
    (subst (λ p. IsFirst 512 (entry_in p) (c.args.from % 512) (Some (c.in_ok-i.i, c.in_ok-i.slot))) table c.in_ok-i.ensures)

pub returns-in_err-i : goal.returns-in_err-i
returns-in_err-i c =
    let levels = levels_of c.args.top.now c.args.uppers.now c.args.middles.now in
    let at : middle_of levels (c.args.from / 512) ≡ Some c.in_ok-place.place = sym c.place_of.ensures ∙ c.in_ok-place.was in
    let below : c.args.from / 512 < 2 ^ 18 = omega (arith, c.requires.cell) in
    let inside : c.in_ok-place.place < length levels.middles = omega (arith, (c.requires.directory.middle_there (c.args.from / 512) c.in_ok-place.place below at).0, c.requires.directory.middles) in
    let table : c.index-middles-place.result ≡ table_at levels.middles c.in_ok-place.place = c.index-middles-place.is ∙ sym (table_at-get levels.middles c.in_ok-place.place c.index-middles-place.result inside) in
    rw c.from_residual-in_err-i.ensures
    (beside_none levels c.args.from c.in_ok-place.place at (subst (λ p. IsFirst 512 (entry_in p) (c.args.from % 512) None) table c.in_err-i.ensures))
