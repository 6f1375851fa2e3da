-- The area before the partition point is the only one that may hold the page.
use Rattle.std.proofs.Common.{rules, of_calls, leb, get_or, cond, Some, None, sym, ◌∙◌, ap, arith}
use Rattle.std.proofs.lemmas.Fn.{always_returns_same}
use Rattle.std.proofs.lemmas.Bool.{cond-true, cond-false, leb-false}
use Rattle.vm_base.specs.FlatMemory.{Area, holds}
use Rattle.area_list.proofs.Order.{IsFrom-in_order}
use Rattle.area_list.proofs.Found.{begun_partitioned, no_area_behind, found_before}
use Rattle.area_list.proofs.lookup.area_at.Goals as goal

pub returns-then-begun-eq0 : goal.returns-then-begun-eq0
returns-then-begun-eq0 c =
    let areas = c.args.areas.now in
    let page = c.args.page in
    let from = IsFrom-in_order areas c.requires.in_order in
    let point = c.partition_point-begun.ensures.partitioned (λ (a : Area). leb a.first page) (always_returns_same _ _ _ (λ a r f k. search (rules, of_calls)))
    (begun_partitioned page 0 areas from) in
    sym (no_area_behind page 0 areas from (λ i d lt. leb-false (get_or areas i d).first page (point.1 i d (omega arith) lt)))

pub returns-then-holds : goal.returns-then-holds
returns-then-holds c =
    let areas = c.args.areas.now in
    let page = c.args.page in
    let area = c.index-areas-begun.result in
    let from = IsFrom-in_order areas c.requires.in_order in
    let point = c.partition_point-begun.ensures.partitioned (λ (a : Area). leb a.first page) (always_returns_same _ _ _ (λ a r f k. search (rules, of_calls)))
    (begun_partitioned page 0 areas from) in
    sym (found_before page 0 c.partition_point-begun.result areas area from c.if-begun-eq0.false c.partition_point-begun.ensures.bound point
    ∙ ap (λ (a : Area). cond (holds a page) (Some a) None) (sym c.index-areas-begun.is)
    ∙ cond-true (holds area page) (Some area) None (sym c.holds.ensures ∙ c.if-holds.true))

pub returns-else-holds : goal.returns-else-holds
returns-else-holds c =
    let areas = c.args.areas.now in
    let page = c.args.page in
    let area = c.index-areas-begun.result in
    let from = IsFrom-in_order areas c.requires.in_order in
    let point = c.partition_point-begun.ensures.partitioned (λ (a : Area). leb a.first page) (always_returns_same _ _ _ (λ a r f k. search (rules, of_calls)))
    (begun_partitioned page 0 areas from) in
    sym (found_before page 0 c.partition_point-begun.result areas area from c.if-begun-eq0.false c.partition_point-begun.ensures.bound point
    ∙ ap (λ (a : Area). cond (holds a page) (Some a) None) (sym c.index-areas-begun.is)
    ∙ cond-false (holds area page) (Some area) None (sym c.holds.ensures ∙ c.if-holds.false))
