use Rattle.std.proofs.Common.{◌∙◌, ap, sym}
use Rattle.std.specs.Prelude.{bit_and, ◌==◌}
use Rattle.leaf_cell.specs.Places.{word_at, entry_may_write}
use Rattle.leaf_cell.specs.Writable.{writable_at}
use Rattle.leaf_cell.proofs.TableWords.{writable_at-writable_of}
use Rattle.leaf_cell.proofs.leaf_table.LeafTable.may_write.Goals as goal

pub returns : goal.returns
returns c = c.contains.ensures tt ∙ ap (λ bits. bit_and bits 2 == 2) c.entry_parts.ensures.bits
    ∙ ap entry_may_write c.word_of.ensures ∙ ap (λ bytes. entry_may_write (word_at bytes c.args.page)) c.bytes.ensures.bytes
    ∙ sym (writable_at-writable_of c.self.inside.frame.bytes c.args.page c.requires)
    ∙ ap (λ table. writable_at table.writable c.args.page) c.self.view_is
