-- The word is written over the bytes of the entry.
use Rattle.std.proofs.Common.{◌≡◌, ◌^◌, ◌<◌, Some, None, eqb, sym, ◌∙◌, ap, arith}
use Rattle.std.proofs.lemmas.Bool.{cond-true}
use Rattle.vm_base.specs.Entries.{number_of, bits_of}
use Rattle.table_levels.specs.Tables.{entry_value}
use Rattle.table_levels.proofs.TableLemmas.{word_sets}
use Rattle.table_levels.proofs.table.set_entry.Goals as goal
use Rattle.table_levels.proofs.table.set_entry.Goals.{in-Some, in-None}

pub returns-clause-set : goal.returns-clause-set
returns-clause-set c =
    let word = c.match-number.word in
    let value : entry_value word ≡ c.args.number = elim c.match-number.branch [
      | in-Some w ↦
          let made = w.entry_word-word.result in
          ap entry_value w.word-is
          ∙ cond-true (eqb (bits_of made) 1) (Some (number_of made)) None (ap (λ bits. eqb bits 1) w.entry_word-word.ensures.bits)
          ∙ ap Some w.entry_word-word.ensures.number ∙ sym w.in-Some.is
      | in-None w ↦ ap entry_value w.word-is ∙ sym w.in-None.is
    ] in
    let fits : word < 256 ^ 8 = elim c.match-number.branch [
      | in-Some w ↦ omega (arith, w.word-is, w.entry_word-word.type_inv)
      | in-None w ↦ omega (arith, w.word-is)
    ] in
    word_sets c.args.table.now.bytes c.bytes_mut.result.now c.write_u64.new.buf c.args.i word c.args.number c.requires c.bytes_mut.ensures.length c.bytes_mut.ensures.bytes
    c.write_u64.ensures fits value
