use Rattle.std.proofs.Common.{◌≡◌, ◌∙◌, length, rules, sym, subst, arith, IsPermutation}
use Rattle.std.specs.List.Sorted.{IsSortedBy}
use Rattle.std.proofs.lemmas.List.Sorted.{answers_always}
use Rattle.page_hash.proofs.SortedPairs.{before, before_orders, MayPush, sorted_pairs, may_push, pushed, all_pushed}
use Rattle.page_hash.proofs.listing.in_order.Goals as goal

pub loop-pair-init : goal.loop-pair-init
loop-pair-init c = record { so_far = c.new-list.ensures }

-- the next pair may be pushed
may : (c : goal.After-deref-in-loop-pair) → MayPush c.loop-pair.list c.pair-item.result
may c =
    let new = c.deref-pair-items.result.now in
    let is = sym c.deref-pair-items.ensures.value in
    may_push c.args.pairs.items new c.requires.pairs.0 c.loop-pair.list c.loop-pair.pair-index c.pair-item.result
    (subst (IsPermutation c.args.pairs.items) is c.sort_unstable_by.ensures.permutation)
    (subst (IsSortedBy before) is
    (c.sort_unstable_by.ensures.sorted before before_orders (answers_always _ _ _ (λ f a r g h. search rules))))
    c.requires.pairs.1 c.requires.few c.requires.each c.loop-pair-test.true c.pair-item.is c.loop-pair.invariant.so_far

pub push-requires-clause-fewer : goal.push-requires-clause-fewer
push-requires-clause-fewer c = (may c).fewer

pub push-requires-clause-greater : goal.push-requires-clause-greater
push-requires-clause-greater c = rw c.deref.ensures.value (may c).greater

pub push-requires-clause-key_fits : goal.push-requires-clause-key_fits
push-requires-clause-key_fits c = rw c.deref.ensures.value (may c).fits.0

pub push-requires-clause-value_fits : goal.push-requires-clause-value_fits
push-requires-clause-value_fits c = rw c.deref-in-loop-pair.ensures.value (may c).fits.1

pub loop-pair-preserved : goal.loop-pair-preserved
loop-pair-preserved c = record {
  so_far = pushed c.deref-pair-items.result.now c.loop-pair.list c.push.new.self c.deref.result.now c.deref-in-loop-pair.result.now
      c.loop-pair.pair-index c.pair-item.result c.in_ok-push.ensures.added c.loop-pair.invariant.so_far c.deref.ensures.value
      c.deref-in-loop-pair.ensures.value c.pair-item.is c.loop-pair-test.true;
}

pub returns-clause-list : goal.returns-clause-list
returns-clause-list c of is =
    let new = c.deref-pair-items.result.now in
    let same = sym c.deref-pair-items.ensures.value in
    let end : c.loop-pair.pair-index ≡ length new = omega (arith, c.loop-pair-test.false, c.loop-pair.auto.pair-index-end) in
    all_pushed new c.loop-pair.list c.loop-pair.pair-index c.loop-pair.invariant.so_far end
    ∙ sorted_pairs c.args.pairs.items new of
    (subst (IsPermutation c.args.pairs.items) same c.sort_unstable_by.ensures.permutation)
    (subst (IsSortedBy before) same
    (c.sort_unstable_by.ensures.sorted before before_orders (answers_always _ _ _ (λ f a r g h. search rules))))
    is
