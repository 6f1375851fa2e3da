-- The front of zeros is zeros.
use Rattle.std.proofs.lemmas.List.{take-replicate}
use Rattle.flat_memory.proofs.range.zeros.Goals as goal

pub returns : goal.returns
returns c = take-replicate c.args.len 4096 0 c.requires
