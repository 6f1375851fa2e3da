use Rattle.std.proofs.Common.{◌∙◌, ap, sym, subst}
use Rattle.leaf_cell.specs.Places.{IsLeafTable, places_of, writable_of, without_entries}
use Rattle.leaf_cell.proofs.TableWords.{length-without_words, entries-without_words, places_of-without_words, writable_of-without_words}
use Rattle.leaf_cell.proofs.leaf_table.LeafTable.clear.Goals as goal

pub returns : goal.returns
returns c = ap (λ frame. record { places = places_of frame.bytes; writable = writable_of frame.bytes }) c.clear_words.ensures
    ∙ (λ i. record {
      places = places_of-without_words c.self.inside.frame.bytes c.args.first c.args.pages c.self.invariant.size c.requires i;
      writable = writable_of-without_words c.self.inside.frame.bytes c.args.first c.args.pages c.self.invariant.size c.requires i;
    })
    ∙ ap (λ table. without_entries table c.args.first c.args.pages) c.self.view_is

pub invariant_of-self : goal.invariant_of-self
invariant_of-self c =
    let old = c.self.inside.frame.bytes in
    subst IsLeafTable (sym (ap (λ frame. frame.bytes) c.clear_words.ensures))
    (record {
      size = length-without_words old c.args.first c.args.pages c.self.invariant.size c.requires;
      entries = entries-without_words old c.args.first c.args.pages c.self.invariant.size c.requires c.self.invariant.entries;
    })
