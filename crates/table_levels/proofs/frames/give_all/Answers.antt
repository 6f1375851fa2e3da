-- One place more is free, and its table given back.
use Rattle.std.proofs.Common.{◌≡◌, ◌+◌, ◌<◌, ◌∷◌, [], length, take, get_or, sym, ◌∙◌, ap, arith}
use Rattle.std.proofs.Math.ListN.{set}
use Rattle.table_levels.specs.Walks.{Place, tables_at}
use Rattle.table_levels.proofs.Giving.{free, freed_more, get_or-freed, tables_at-take, tables_at-take_le, gives_more, freed_all}
use Rattle.table_levels.proofs.frames.give_all.Goals as goal

pub give_back-requires : goal.give_back-requires
give_back-requires g c =
    let places = c.args.places.now.items in
    let i = c.loop-i.i in
    let d = c.index_mut.result.now in
    let inside : i < length places = omega (arith, c.loop-i-test.true, c.len-i-end.ensures) in
    let item : c.take-table.result ≡ get_or places i d =
    c.take-table.ensures.value ∙ c.index_mut.ensures.value
    ∙ ap (λ l. get_or l i d) c.loop-i.invariant.freed ∙ get_or-freed places i d inside in
    let count : tables_at (take (i + 1) places) ≡ tables_at (take i places) + tables_at (c.take-table.result ∷ []) =
    tables_at-take places i d inside ∙ ap (λ (p : Place). tables_at (take i places) + tables_at (p ∷ [])) (sym item) in
    omega (arith, c.loop-i.invariant.out, count, tables_at-take_le places (i + 1), c.requires.lent)

pub loop-i-preserved : goal.loop-i-preserved
loop-i-preserved g c =
    let places = c.args.places.now.items in
    let i = c.loop-i.i in
    let d = c.index_mut.result.now in
    let inside : i < length places = omega (arith, c.loop-i-test.true, c.len-i-end.ensures) in
    let item : c.take-table.result ≡ get_or places i d =
    c.take-table.ensures.value ∙ c.index_mut.ensures.value
    ∙ ap (λ l. get_or l i d) c.loop-i.invariant.freed ∙ get_or-freed places i d inside in
    let count : tables_at (take (i + 1) places) ≡ tables_at (take i places) + tables_at (c.take-table.result ∷ []) =
    tables_at-take places i d inside ∙ ap (λ (p : Place). tables_at (take i places) + tables_at (p ∷ [])) (sym item) in
    record {
      freed = ap (λ (p : Place). set c.loop-i.places.items i p) c.take-table.ensures.after
          ∙ ap (λ l. set l i free) c.loop-i.invariant.freed ∙ freed_more places i inside;
      given = gives_more g.A.Allot.goes (tables_at (take i places)) (tables_at (c.take-table.result ∷ [])) (tables_at (take (i + 1) places)) _ _ _
          c.loop-i.invariant.given c.give_back.ensures.given count;
      out = omega (arith, c.loop-i.invariant.out, c.give_back.ensures.out, count);
      unrefused = c.give_back.ensures.unrefused ∙ c.loop-i.invariant.unrefused;
      count = omega (arith, c.loop-i.invariant.count, c.count_of-given.ensures, count);
      untold = c.give_back.ensures.untold ∙ c.loop-i.invariant.untold;
    }

pub returns-then-given-tables-clause-free : goal.returns-then-given-tables-clause-free
returns-then-given-tables-clause-free g c =
    c.loop-i.invariant.freed ∙ freed_all c.args.places.now.items c.loop-i.i (omega (arith, c.loop-i-test.true, c.len-i-end.ensures))
    (sym c.loop-i.invariant.count ∙ c.if-given-tables.true ∙ c.requires.counted)

pub overflow_add-given : goal.overflow_add-given
overflow_add-given g c =
    let places = c.args.places.now.items in
    let i = c.loop-i.i in
    let d = c.index_mut.result.now in
    let inside : i < length places = omega (arith, c.loop-i-test.true, c.len-i-end.ensures) in
    let item : c.take-table.result ≡ get_or places i d =
    c.take-table.ensures.value ∙ c.index_mut.ensures.value
    ∙ ap (λ l. get_or l i d) c.loop-i.invariant.freed ∙ get_or-freed places i d inside in
    let count : tables_at (take (i + 1) places) ≡ tables_at (take i places) + tables_at (c.take-table.result ∷ []) =
    tables_at-take places i d inside ∙ ap (λ (p : Place). tables_at (take i places) + tables_at (p ∷ [])) (sym item) in
    omega (arith, c.count_of-given.ensures, count, c.loop-i.invariant.count, tables_at-take_le places (i + 1), c.requires.counted)
