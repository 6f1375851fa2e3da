use Rattle.std.proofs.Common.{◌∙◌, ap, sym}
use Rattle.kernel_meaning.specs.Leaves.{version_at}
use Rattle.leaf_cell.specs.Places.{word_at, place_in}
use Rattle.leaf_cell.proofs.TableWords.{version_at-places_of}
use Rattle.leaf_cell.proofs.leaf_table.LeafTable.get.Goals as goal

pub returns : goal.returns
returns c = c.place_of.ensures ∙ ap place_in c.word_of.ensures ∙ ap (λ bytes. place_in (word_at bytes c.args.page)) c.bytes.ensures.bytes
    ∙ sym (version_at-places_of c.self.inside.frame.bytes c.args.page c.requires)
    ∙ ap (λ table. version_at table.places c.args.page) c.self.view_is
