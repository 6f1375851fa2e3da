use Rattle.std.proofs.Common.{arith}
use Rattle.page_hash.proofs.StoreReads.{heap_part}
use Rattle.page_hash.proofs.lookups.value.Goals as goal

pub read_area-requires-clause-area : goal.read_area-requires-clause-area
read_area-requires-clause-area g c =
    heap_part _ c.requires.stands.stands.0 c.requires.stands.pairs _ _ c.requires.stands.stands.1 c.requires.within.0 c.requires.within.1

pub read_area-requires-clause-within : goal.read_area-requires-clause-within
read_area-requires-clause-within g c = omega (arith, c.requires.within.1)
