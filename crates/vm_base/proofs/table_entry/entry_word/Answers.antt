use Rattle.std.proofs.Common.{◌≡◌, ◌+◌, ◌*◌, ◌∙◌, ap, bit_and}
use Rattle.vm_base.specs.Entries.{named_bits, bits_of}
use Rattle.vm_base.proofs.EntryLemmas.{bits_of-entry}
use Rattle.vm_base.proofs.table_entry.entry_word.Goals as goal

pub returns-clause-bits : goal.returns-clause-bits
returns-clause-bits c =
    let low : c.from-2.result ≡ bit_and c.args.bits.0 named_bits = c.from-2.ensures ∙ c.named.ensures in
    ap bits_of (ap (λ number. number * 4096 + c.from-2.result) c.from.ensures ∙ ap (λ bits. c.args.number * 4096 + bits) low)
    ∙ bits_of-entry c.args.number c.args.bits.0
