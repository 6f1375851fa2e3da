use Rattle.std.proofs.Common.{◌≤◌, ℕ, List, get_or, [], length, sym, ap, arith, rules}
use Rattle.image_text.specs.declared.pair_end.PairEnd.{PairEnd}
use Rattle.image_text.proofs.Buffers.{ArePairEnds-at, get_or-pairs_between}
use Rattle.image_text.proofs.pair_list.value_at.Goals as goal

pub slice_bounds-result-count : goal.slice_bounds-result-count
slice_bounds-result-count c =
    let places = ArePairEnds-at 0 c.args.ends.now (length c.args.bytes.now) c.args.i
    (record { key = 0; value = 0 }) c.requires.within c.requires.places in
    places.1

pub slice_bounds-result-start : goal.slice_bounds-result-start
slice_bounds-result-start c =
    let places = ArePairEnds-at 0 c.args.ends.now (length c.args.bytes.now) c.args.i
    (record { key = 0; value = 0 }) c.requires.within c.requires.places in
    let none : PairEnd = record { key = 0; value = 0 } in
    let low : (get_or c.args.ends.now c.args.i none).key ≤ length c.args.bytes.now = omega
    (arith, places.1, places.2) in
    search rules

pub slice_bounds-result-end : goal.slice_bounds-result-end
slice_bounds-result-end c =
    let places = ArePairEnds-at 0 c.args.ends.now (length c.args.bytes.now) c.args.i
    (record { key = 0; value = 0 }) c.requires.within c.requires.places in
    let none : PairEnd = record { key = 0; value = 0 } in
    let high : (get_or c.args.ends.now c.args.i none).value ≤ length c.args.bytes.now = places.2 in
    search rules

pub returns : goal.returns
returns c =
    let none : PairEnd = record { key = 0; value = 0 } in
    sym (ap (λ (pair : List ℕ × List ℕ). pair.1)
    (get_or-pairs_between 0 c.args.bytes.now c.args.ends.now c.args.i
    ([], []) none c.requires.within))
