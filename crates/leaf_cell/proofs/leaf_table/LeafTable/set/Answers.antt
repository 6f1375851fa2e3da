use Rattle.std.proofs.Common.{rules, ◌≡◌, ◌<◌, ◌^◌, ◌∙◌, ap, sym, subst, inr}
use Rattle.std.specs.Prelude.{slice_set}
use Rattle.vm_base.specs.Entries.{entry_of}
use Rattle.leaf_cell.specs.Places.{IsLeafTable, places_of, writable_of, with_entry}
use Rattle.leaf_cell.proofs.TableWords.{length-with_word, entries-with_word, places_of-with_word, writable_of-with_word, place_in-present, may_write-present}
use Rattle.leaf_cell.proofs.leaf_table.LeafTable.set.Goals as goal

pub returns : goal.returns
returns c =
    let word : c.entry_word-word.result ≡ entry_of c.args.place c.page_bits.result.0 = c.entry_word-word.ensures.word in
    ap (λ frame. record { places = places_of frame.bytes; writable = writable_of frame.bytes }) c.put_word.ensures
    ∙ (λ i. record {
      places = (places_of-with_word c.self.inside.frame.bytes c.args.page c.entry_word-word.result c.self.invariant.size c.requires c.entry_word-word.type_inv
          ∙ ap (slice_set (places_of c.self.inside.frame.bytes) c.args.page)
          (place_in-present c.entry_word-word.result c.args.place c.args.is_writable (word ∙ ap (entry_of c.args.place) c.page_bits.ensures) c.entry_word-word.ensures.number)) i;
      writable = (writable_of-with_word c.self.inside.frame.bytes c.args.page c.entry_word-word.result c.self.invariant.size c.requires c.entry_word-word.type_inv
          ∙ ap (slice_set (writable_of c.self.inside.frame.bytes) c.args.page)
          (may_write-present c.entry_word-word.result c.args.place c.args.is_writable (word ∙ ap (entry_of c.args.place) c.page_bits.ensures))) i;
    })
    ∙ ap (λ table. with_entry table c.args.page c.args.place c.args.is_writable) c.self.view_is

pub invariant_of-self : goal.invariant_of-self
invariant_of-self c =
    let old = c.self.inside.frame.bytes in
    let word = c.entry_word-word.result in
    let is = c.entry_word-word.ensures.word ∙ ap (entry_of c.args.place) c.page_bits.ensures in
    let small : c.args.place < 2 ^ 32 = search rules in
    let entries = entries-with_word old c.args.page word c.self.invariant.size c.requires c.entry_word-word.type_inv (inr (c.args.place, small, c.args.is_writable, is)) c.self.invariant.entries in
    subst IsLeafTable (sym (ap (λ frame. frame.bytes) c.put_word.ensures))
    (record { size = length-with_word old c.args.page word c.self.invariant.size c.requires; entries = entries })
