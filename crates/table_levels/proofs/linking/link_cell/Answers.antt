-- The fresh tables are on the way, and the slot at its end.
use Rattle.std.proofs.Common.{◌≡◌, ◌<◌, None, length, sym, ◌∙◌, ap, subst}
use Rattle.table_levels.specs.Walks.{table_at}
use Rattle.table_levels.proofs.Linked.{cell_linked}
use Rattle.table_levels.proofs.linking.link_cell.Goals as goal

pub returns : goal.returns
returns c =
    let middles = c.args.middles.now.items in
    let free = c.free_place-free.result in
    let inside : free < length middles = subst (λ l. free < length l) c.deref.ensures.value c.free_place-free.ensures.inside in
    let is_free : table_at middles free ≡ None = ap (λ l. table_at l free) (sym c.deref.ensures.value) ∙ c.free_place-free.ensures.free in
    record {
      linked = cell_linked c.args.top.now c.link_upper.new.top c.args.uppers.now.items c.link_upper.new.uppers.items middles c.link_middle.new.middles.items
          c.args.cell c.args.slot free c.args.fresh c.requires.cell c.requires.directory c.requires.absent c.requires.fresh inside is_free
          c.link_upper.ensures.added c.link_upper.ensures.places c.link_upper.ensures.counted.all c.link_middle.ensures.put c.link_middle.ensures.places c.link_middle.ensures.counted;
      upper_counted = c.link_upper.ensures.counted.uppers;
    }
