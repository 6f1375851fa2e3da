-- The upper tables on the way are there and named.
use Rattle.std.proofs.Common.{◌≡◌, ◌/◌, ◌%◌, ◌+◌, ◌<◌, ◌∷◌, [], Some, length, sym, ◌∙◌, ap, subst, arith, refl}
use Rattle.std.specs.Option.{option_or}
use Rattle.std.specs.Prelude.{IsSome}
use Rattle.table_levels.specs.Walks.{table_at, tables_at, entry_in}
use Rattle.std.proofs.Math.ListN.{set, length-set}
use Rattle.table_levels.specs.Links.{SetsIn}
use Rattle.table_levels.proofs.Walking.{table_at-get}
use Rattle.table_levels.proofs.Links.{put_counted, link_adds, table_at-set_here, fresh_there, fresh_free, top_counted}
use Rattle.table_levels.proofs.linking.link_upper.Goals as goal

pub returns-clause-added : goal.returns-clause-added
returns-clause-added c =
    let uppers = c.args.uppers.now.items in
    let i = c.args.index / 512 in
    let inside : i < length uppers = omega (arith, c.requires.index, c.requires.places) in
    let put : c.put_if_some-2.new.place ≡ option_or c.args.fresh_upper (table_at uppers i) =
    c.put_if_some-2.ensures ∙ ap (option_or c.args.fresh_upper) (c.index_mut.ensures.value ∙ sym (table_at-get uppers i c.index_mut.result.now inside)) in
    let then = set uppers i c.put_if_some-2.new.place in
    let again = c.index_mut-2.ensures.value ∙ sym (table_at-get then i c.index_mut-2.result.now (omega (arith, inside, length-set uppers i c.put_if_some-2.new.place))) ∙ table_at-set_here uppers i c.put_if_some-2.new.place inside in
    link_adds c.args.top.now c.put_if_some.new.place c.set_in.new.place uppers c.put_if_some-2.new.place c.set_in-2.new.place c.args.fresh_top c.args.fresh_upper
    c.args.index c.args.middle c.requires.index c.requires.places c.requires.names c.requires.named c.requires.top_fresh c.requires.upper_fresh
    c.put_if_some.ensures c.set_in.ensures.set put c.set_in-2.ensures.there (subst (λ p. SetsIn p c.set_in-2.new.place (c.args.index % 512) (Some c.args.middle)) again c.set_in-2.ensures.set)

pub returns-clause-counted : goal.returns-clause-counted
returns-clause-counted c =
    let top = c.args.top.now in
    let uppers = c.args.uppers.now.items in
    let fresh = c.args.fresh_upper in
    let i = c.args.index / 512 in
    let below : i < 512 = omega (arith, c.requires.index) in
    let inside : i < length uppers = omega (arith, c.requires.index, c.requires.places) in
    let was = c.index_mut.ensures.value ∙ sym (table_at-get uppers i c.index_mut.result.now inside) in
    let put : c.put_if_some-2.new.place ≡ option_or fresh (table_at uppers i) = c.put_if_some-2.ensures ∙ ap (option_or fresh) was in
    let there : IsSome c.put_if_some-2.new.place =
    subst IsSome (sym put) (fresh_there top uppers i fresh (entry_in top i) below c.requires.names refl c.requires.upper_fresh) in
    let more : tables_at (set (set uppers i c.put_if_some-2.new.place) i c.set_in-2.new.place) ≡ tables_at uppers + tables_at (fresh ∷ []) =
    put_counted uppers i fresh c.put_if_some-2.new.place c.set_in-2.new.place inside put there c.set_in-2.ensures.there
    (fresh_free top uppers i fresh c.requires.named c.requires.upper_fresh) in
    record {
      all = top_counted top c.set_in.new.place c.args.fresh_top fresh uppers _ c.set_in.ensures.there c.requires.top_fresh more;
      uppers = more;
    }
