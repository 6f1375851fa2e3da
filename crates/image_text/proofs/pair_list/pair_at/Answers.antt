use Rattle.std.proofs.Common.{◌≤◌, ◌-◌, ◌++◌, ℕ, List, take, drop, get_or, [], length, sym, ap, ◌∙◌, arith, rules}
use Rattle.image_text.specs.declared.pair_end.PairEnd.{PairEnd}
use Rattle.image_text.specs.Pairs.{pair_start}
use Rattle.image_text.proofs.Buffers.{ArePairEnds-at, get_or-pairs_between, key_then_value}
use Rattle.image_text.proofs.pair_list.pair_at.Goals as goal

pub slice_bounds-result-count : goal.slice_bounds-result-count
slice_bounds-result-count c =
    let places = ArePairEnds-at 0 c.args.ends.now (length c.args.bytes.now) c.args.i
    (record { key = 0; value = 0 }) c.requires.within c.requires.places in
    omega (arith, places.0, places.1, c.start_of-start.ensures)

pub slice_bounds-result-start : goal.slice_bounds-result-start
slice_bounds-result-start c =
    let places = ArePairEnds-at 0 c.args.ends.now (length c.args.bytes.now) c.args.i
    (record { key = 0; value = 0 }) c.requires.within c.requires.places in
    let low : c.start_of-start.result ≤ length c.args.bytes.now = omega
    (arith, places.0, places.1, places.2, c.start_of-start.ensures) in
    search rules

pub slice_bounds-result-end : goal.slice_bounds-result-end
slice_bounds-result-end c =
    let places = ArePairEnds-at 0 c.args.ends.now (length c.args.bytes.now) c.args.i
    (record { key = 0; value = 0 }) c.requires.within c.requires.places in
    let none : PairEnd = record { key = 0; value = 0 } in
    let high : (get_or c.args.ends.now c.args.i none).value ≤ length c.args.bytes.now = places.2 in
    search rules

pub returns : goal.returns
returns c =
    let ends = c.args.ends.now in
    let none : PairEnd = record { key = 0; value = 0 } in
    let places = ArePairEnds-at 0 ends (length c.args.bytes.now) c.args.i none c.requires.within
    c.requires.places in
    ap (λ (start : ℕ). take ((get_or ends c.args.i none).value - start)
    (drop start c.args.bytes.now)) c.start_of-start.ensures
    ∙ key_then_value c.args.bytes.now (pair_start 0 ends c.args.i)
    (get_or ends c.args.i none).key (get_or ends c.args.i none).value places.0 places.1 places.2
    ∙ sym (ap (λ (pair : List ℕ × List ℕ). pair.0 ++ pair.1)
    (get_or-pairs_between 0 c.args.bytes.now ends c.args.i ([], []) none c.requires.within))
