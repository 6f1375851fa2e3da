use Rattle.std.proofs.Common.{◌∙◌, arith}
use Rattle.store_meaning.specs.Layout.{array_field}
use Rattle.page_hash.proofs.Pieces.{word_in}
use Rattle.page_hash.proofs.table_head.table_head.Goals as goal

pub returns-clause-buckets : goal.returns-clause-buckets
returns-clause-buckets g c =
    c.read_u64-2.ensures
    ∙ word_in (g.M.Memory.state c.args.m.now).mem.present array_field 24 8 16 c.read_area.new.buf
    c.read_area.ensures.bytes (omega arith) (omega arith)

pub returns-clause-pairs : goal.returns-clause-pairs
returns-clause-pairs g c =
    c.read_u64-3.ensures
    ∙ word_in (g.M.Memory.state c.args.m.now).mem.present array_field 24 16 8 c.read_area.new.buf
    c.read_area.ensures.bytes (omega arith) (omega arith)
