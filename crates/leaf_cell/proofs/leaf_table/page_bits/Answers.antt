use Rattle.std.proofs.Common.{◌∙◌, sym, ap}
use Rattle.std.specs.Prelude.{cond}
use Rattle.leaf_cell.proofs.leaf_table.page_bits.Goals as goal

pub returns-then-is_writable : goal.returns-then-is_writable
returns-then-is_writable c = c.union.ensures tt ∙ sym (ap (λ b. cond b 3 1) c.if-is_writable.true)
