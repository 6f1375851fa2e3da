use Rattle.page_hash.proofs.StoreReads.{read_bytes}
use Rattle.page_hash.proofs.words.read_area.Goals as goal

pub returns-clause-bytes : goal.returns-clause-bytes
returns-clause-bytes g c = read_bytes _ _ _ _ _ c.requires.area c.read-read.ensures.bytes c.read-read.ensures.fault
