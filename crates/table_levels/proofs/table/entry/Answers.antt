-- The word of the entry, in its parts.
use Rattle.std.proofs.Common.{◌≡◌, true, false, eqb, Some, None, sym, ◌∙◌, ap}
use Rattle.std.proofs.lemmas.Bool.{cond-true, cond-false}
use Rattle.vm_base.specs.Entries.{number_of, bits_of}
use Rattle.table_levels.proofs.TableLemmas.{entry_read}
use Rattle.table_levels.proofs.table.entry.Goals as goal

pub returns-then-eq : goal.returns-then-eq
returns-then-eq c =
    let word = c.read_u64.result in
    let present : eqb (bits_of word) 1 ≡ true = ap (λ bits. eqb bits 1) (sym c.entry_parts-number.ensures.bits) ∙ sym c.eq.ensures ∙ c.if-eq.true in
    ap Some c.entry_parts-number.ensures.number
    ∙ sym (entry_read c.args.table.now.bytes c.bytes.result.now c.args.i word c.bytes.ensures.bytes c.read_u64.ensures
    ∙ cond-true (eqb (bits_of word) 1) (Some (number_of word)) None present)

pub returns-else-eq : goal.returns-else-eq
returns-else-eq c =
    let word = c.read_u64.result in
    let absent : eqb (bits_of word) 1 ≡ false = ap (λ bits. eqb bits 1) (sym c.entry_parts-number.ensures.bits) ∙ sym c.eq.ensures ∙ c.if-eq.false in
    sym (entry_read c.args.table.now.bytes c.bytes.result.now c.args.i word c.bytes.ensures.bytes c.read_u64.ensures
    ∙ cond-false (eqb (bits_of word) 1) (Some (number_of word)) None absent)
