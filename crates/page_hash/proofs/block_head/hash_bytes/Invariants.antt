use Rattle.std.proofs.Common.{◌≡◌, fold, take}
use Rattle.store_meaning.specs.HashLayout.{hash_step}
use Rattle.page_hash.proofs.block_head.hash_bytes.Given as goal

-- the hash of the bytes so far
abbrev pub invariant-loop-byte : goal.invariant-loop-byte
invariant-loop-byte l = l.on ≡ fold hash_step l.hash (take l.byte-index l.bytes)
