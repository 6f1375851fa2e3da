use Rattle.std.proofs.Common.{◌∙◌, arith}
use Rattle.page_hash.proofs.StoreReads.{header_part, pairs_counted}
use Rattle.page_hash.proofs.lookups.len.Goals as goal

pub read_word-requires-clause-area : goal.read_word-requires-clause-area
read_word-requires-clause-area g c =
    header_part _ c.requires.stands.stands.0 c.requires.stands.pairs _ _ c.requires.stands.stands.1 (omega arith) (omega arith)

pub returns-clause-len : goal.returns-clause-len
returns-clause-len g c pairs stands = c.read_word.ensures.word ∙ pairs_counted _ stands.0 pairs stands.1
