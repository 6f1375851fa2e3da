-- A pushed area is one more piece.
use Rattle.std.proofs.Common.{◌≡◌, ◌<◌, ◌∷◌, [], ◌++◌, length, sym, ◌∙◌, ap, arith, length-append, refl, lit<, inl, inr}
use Rattle.std.proofs.lemmas.Bool.{cases_lt, false≢true, eqb-true}
use Rattle.vm_base.specs.FlatMemory.{Area}
use Rattle.area_list.specs.contracts.area.Area.{the_view}
use Rattle.area_list.proofs.Joining.{push_first, push_joins, push_apart, both}
use Rattle.area_list.proofs.pieces.push_joined.Goals as goal

pub returns-in_default : goal.returns-in_default
returns-in_default c before same =
    let items = c.args.list.now.items in
    let none : length items ≡ 0 = elim (cases_lt 0 (length items)) [
      | inl some ↦ absurd (false≢true (c.in_default.ensures.variant.1 some))
      | inr none ↦ omega arith
    ] in
    c.push.ensures.items ∙ sym (push_first before items c.pop.new.self.items c.args.area same c.in_default.ensures.items none)

pub push-requires-then-joins : goal.push-requires-then-joins
push-requires-then-joins c =
    let room : length c.pop.new.self.items < 128 = omega (arith, c.is_full-is_full.ensures.fits, c.in-Some.ensures.len) in
    (lit< tt, room)

pub returns-then-joins : goal.returns-then-joins
returns-then-joins c before same =
    let front = c.pop.new.self.items in
    let last = c.in-Some.last in
    c.push-then-joins.ensures.items
    ∙ ap (λ (x : Area). front ++ both x (the_view c.area.inside) ∷ []) c.last.view_is
    ∙ ap (λ (x : Area). front ++ both last x ∷ []) c.area.view_is
    ∙ sym (push_joins before c.args.list.now.items front last c.args.area same c.in-Some.ensures.items (sym c.joins.ensures ∙ c.if-joins.true))

pub push-requires-2 : goal.push-requires-2
push-requires-2 c =
    let room : length c.pop.new.self.items < 128 = omega (arith, c.is_full-is_full.ensures.fits, c.in-Some.ensures.len) in
    (lit< tt, room)

pub returns-then-is_full : goal.returns-then-is_full
returns-then-is_full c before same =
    let items = c.args.list.now.items in
    let split = push_apart before items c.pop.new.self.items c.in-Some.last c.args.area same c.in-Some.ensures.items (sym c.joins.ensures ∙ c.if-joins.false) in
    let full : length items ≡ 128 = eqb-true (length items) 128 (sym c.is_full-is_full.ensures.value ∙ c.if-is_full.true) in
    (refl, omega (arith, ap length split, ap length c.in-Some.ensures.items, length-append (c.pop.new.self.items ++ c.in-Some.last ∷ []) (c.args.area ∷ []), length-append c.pop.new.self.items (c.in-Some.last ∷ [])))

pub returns : goal.returns
returns c before same =
    let split = push_apart before c.args.list.now.items c.pop.new.self.items c.in-Some.last c.args.area same c.in-Some.ensures.items (sym c.joins.ensures ∙ c.if-joins.false) in
    c.push-3.ensures.items ∙ ap (λ l. l ++ c.args.area ∷ []) c.push-2.ensures.items ∙ sym split
