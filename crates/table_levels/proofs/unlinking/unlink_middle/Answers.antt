-- The upper table stays with another entry, or goes, and the top table likewise.
use Rattle.std.proofs.Common.{◌≡◌, ◌+◌, ◌/◌, ◌%◌, ◌<◌, ◌∷◌, [], None, Some, length, refl, sym, ◌∙◌, subst, arith, inl, inr}
use Rattle.std.proofs.Math.ListN.{set}
use Rattle.std.specs.Prelude.{IsSome}
use Rattle.table_levels.specs.Walks.{table_at, tables_at}
use Rattle.table_levels.specs.Links.{SetsIn}
use Rattle.table_levels.proofs.Walking.{table_at-get}
use Rattle.table_levels.proofs.Links.{some_counts, tables_at-cons, tables_at-set}
use Rattle.table_levels.proofs.Unlinked.{upper_named, upper_there, top_there, middle_dropped, counted_there, counted_none}
use Rattle.table_levels.proofs.unlinking.unlink_middle.Goals as goal

pub returns-in-Some-clause-dropped : goal.returns-in-Some-clause-dropped
returns-in-Some-clause-dropped c =
    let uppers = c.args.uppers.now.items in
    let i = c.args.index / 512 in
    let was : c.index_mut.result.now ≡ table_at uppers i =
    c.index_mut.ensures.value ∙ sym (table_at-get uppers i c.index_mut.result.now (omega (arith, c.requires.index, c.requires.places))) in
    let one : tables_at (c.take_entry.new.place ∷ []) + 1 ≡ 1 = c.in-Some.ensures.counted in
    let gone : c.take_entry.new.place ≡ None = counted_none c.take_entry.new.place (omega arith) in
    middle_dropped c.args.top.now c.take_entry-in-Some.new.place uppers c.take_entry.new.place c.args.index
    c.requires.index c.requires.places c.requires.names c.requires.named c.requires.there
    (subst (λ p. SetsIn p c.take_entry.new.place (c.args.index % 512) None) was c.take_entry.ensures.taken) c.take_entry.ensures.used c.take_entry-in-Some.ensures.used
    (inr (gone, c.take_entry-in-Some.ensures.taken.here)) c.take_entry-in-Some.ensures.taken.others

pub returns-in-Some-clause-counted : goal.returns-in-Some-clause-counted
returns-in-Some-clause-counted c =
    let uppers = c.args.uppers.now.items in
    let i = c.args.index / 512 in
    let inside : i < length uppers = omega (arith, c.requires.index, c.requires.places) in
    let one : tables_at (c.take_entry.new.place ∷ []) + 1 ≡ 1 = c.in-Some.ensures.counted in
    let upper = some_counts (table_at uppers i) (upper_there c.args.top.now uppers c.args.index c.requires.index c.requires.names c.requires.there) in
    let top = some_counts c.args.top.now (top_there c.args.top.now uppers c.args.index c.requires.there) in
    let less = tables_at-set uppers i c.take_entry.new.place inside in
    record {
      all = omega (
        arith,
        one,
        upper,
        top,
        c.take_entry-in-Some.ensures.counted,
        less,
        tables_at-cons c.args.top.now uppers,
        tables_at-cons c.take_entry-in-Some.new.place (set uppers i c.take_entry.new.place),
        tables_at-cons c.take_entry-in-Some.result (Some c.in-Some.unused ∷ []),
      );
      uppers = omega (arith, one, upper, less);
    }

pub returns-in-None-clause-dropped : goal.returns-in-None-clause-dropped
returns-in-None-clause-dropped c =
    let uppers = c.args.uppers.now.items in
    let i = c.args.index / 512 in
    let was : c.index_mut.result.now ≡ table_at uppers i =
    c.index_mut.ensures.value ∙ sym (table_at-get uppers i c.index_mut.result.now (omega (arith, c.requires.index, c.requires.places))) in
    let one : tables_at (c.take_entry.new.place ∷ []) + 0 ≡ 1 = c.in-None.ensures.counted in
    let stays : IsSome c.take_entry.new.place = counted_there c.take_entry.new.place (omega arith) in
    let named = upper_named c.args.top.now uppers c.args.index c.requires.index c.requires.names c.requires.there in
    middle_dropped c.args.top.now c.args.top.now uppers c.take_entry.new.place c.args.index
    c.requires.index c.requires.places c.requires.names c.requires.named c.requires.there
    (subst (λ p. SetsIn p c.take_entry.new.place (c.args.index % 512) None) was c.take_entry.ensures.taken) c.take_entry.ensures.used
    (λ there. (i, omega (arith, c.requires.index), subst IsSome (sym named) refl)) (inl (stays, named)) (λ j below apart. refl)

pub returns-in-None-clause-counted : goal.returns-in-None-clause-counted
returns-in-None-clause-counted c =
    let uppers = c.args.uppers.now.items in
    let i = c.args.index / 512 in
    let inside : i < length uppers = omega (arith, c.requires.index, c.requires.places) in
    let one : tables_at (c.take_entry.new.place ∷ []) + 0 ≡ 1 = c.in-None.ensures.counted in
    let upper = some_counts (table_at uppers i) (upper_there c.args.top.now uppers c.args.index c.requires.index c.requires.names c.requires.there) in
    let less = tables_at-set uppers i c.take_entry.new.place inside in
    let before = tables_at-cons c.args.top.now uppers in
    record {
      all = omega (arith, one, upper, less, before, tables_at-cons c.args.top.now (set uppers i c.take_entry.new.place));
      uppers = omega (arith, one, upper, less);
    }
