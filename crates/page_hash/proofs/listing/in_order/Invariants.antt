use Rattle.std.proofs.Common.{◌≡◌, take, map}
use Rattle.page_hash.specs.Chains.{pair_seen}
use Rattle.page_hash.proofs.listing.in_order.Given as goal

-- the list has the pairs so far
abbrev pub invariant-loop-pair : goal.invariant-loop-pair
invariant-loop-pair l = record { so_far : l.list ≡ map pair_seen (take l.pair-index l.pair-items) }
