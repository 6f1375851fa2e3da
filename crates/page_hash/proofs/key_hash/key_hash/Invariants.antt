use Rattle.std.proofs.Common.{◌≡◌, fold, take}
use Rattle.store_meaning.specs.HashLayout.{hash_step}
use Rattle.page_hash.proofs.key_hash.key_hash.Given as goal

-- the hash of the bytes so far
abbrev pub invariant-loop-byte : goal.invariant-loop-byte
invariant-loop-byte l = l.hash ≡ fold hash_step 14695981039346656037 (take l.byte-index l.key)
