-- Bytes that are all zero.
use Rattle.std.proofs.Common.{◌∙◌, ◌+◌, ◌-◌, ◌*◌, sym, ap, arith}
use Rattle.table_levels.specs.Tables.{entry_at}
use Rattle.table_levels.proofs.BareEntries.{bare_entry}
use Rattle.table_levels.proofs.search.is_bare.Goals as goal

pub returns : goal.returns
returns c = λ is k above below. ap (λ bytes. entry_at bytes k) (sym c.bytes.ensures.bytes)
    ∙ bare_entry c.bytes.result.now c.args.begin 8 (8 * (c.args.begin + 8) - 8 * c.args.begin) (omega arith) (sym c.eq.ensures
    ∙ is) k above below
