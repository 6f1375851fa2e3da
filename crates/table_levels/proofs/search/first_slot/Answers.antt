-- The slots of the next middle table.
use Rattle.std.proofs.Common.{◌≡◌, ◌+◌, ◌/◌, ◌^◌, ◌<◌, Some, None, length, sym, ◌∙◌, subst, arith}
use Rattle.table_levels.specs.First.{IsFirst}
use Rattle.table_levels.specs.Walks.{entry_in, levels_of, middle_of, table_at, tables_in}
use Rattle.table_levels.proofs.Walking.{table_at-get}
use Rattle.table_levels.proofs.FoundFirst.{later_some, middle_filled}
use Rattle.table_levels.proofs.search.first_slot.Goals as goal

pub returns : goal.returns
returns c =
    let levels = levels_of c.args.top.now c.args.uppers.now c.args.middles.now in
    let index = c.in_ok-index.index in
    let place = c.in_ok-index.place in
    let next : IsFirst (2 ^ 18) (middle_of levels) (c.args.from / 512 + 1) (Some (index, place)) = c.in_ok-index.ensures in
    let inside : place < length levels.middles = omega (arith, (c.requires.middle_there index place next.1 next.2).0, c.requires.middles) in
    let table : c.index-middles-place.result ≡ table_at levels.middles place = c.index-middles-place.is ∙ sym (table_at-get levels.middles place c.index-middles-place.result inside) in
    later_some levels c.args.from index place c.in_ok-i.i c.in_ok-i.slot c.in_default.ensures next
    (subst (λ p. IsFirst 512 (entry_in p) 0 (Some (c.in_ok-i.i, c.in_ok-i.slot))) table c.in_ok-i.ensures)

pub returns-in_err-i : goal.returns-in_err-i
returns-in_err-i c =
    let levels = levels_of c.args.top.now c.args.uppers.now c.args.middles.now in
    let index = c.in_ok-index.index in
    let place = c.in_ok-index.place in
    let next : IsFirst (2 ^ 18) (middle_of levels) (c.args.from / 512 + 1) (Some (index, place)) = c.in_ok-index.ensures in
    let inside : place < length levels.middles = omega (arith, (c.requires.middle_there index place next.1 next.2).0, c.requires.middles) in
    let table : c.index-middles-place.result ≡ table_at levels.middles place = c.index-middles-place.is ∙ sym (table_at-get levels.middles place c.index-middles-place.result inside) in
    absurd (middle_filled levels (tables_in levels) index place c.requires next.1 next.2 (subst (λ p. IsFirst 512 (entry_in p) 0 None) table c.in_err-i.ensures))
