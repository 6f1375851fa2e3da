-- One table more where it is fresh.
use Rattle.std.proofs.Common.{◌≡◌, sym, ◌∙◌, ap, subst}
use Rattle.std.specs.Option.{option_or}
use Rattle.std.specs.Prelude.{IsSome}
use Rattle.table_levels.specs.Walks.{table_at}
use Rattle.table_levels.proofs.Walking.{table_at-get}
use Rattle.table_levels.proofs.Links.{put_counted}
use Rattle.table_levels.proofs.linking.link_middle.Goals as goal

pub returns-clause-counted : goal.returns-clause-counted
returns-clause-counted c =
    let middles = c.args.middles.now.items in
    let put : c.put_if_some.new.place ≡ option_or c.args.fresh (table_at middles c.args.place) =
    c.put_if_some.ensures ∙ ap (option_or c.args.fresh) (c.index_mut.ensures.value ∙ sym (table_at-get middles c.args.place c.index_mut.result.now c.requires.place)) in
    put_counted middles c.args.place c.args.fresh c.put_if_some.new.place c.set_in.new.place c.requires.place put
    (subst IsSome (sym put) c.requires.there) c.set_in.ensures.there c.requires.free
