use Rattle.std.proofs.Common.{◌≡◌, map, IsPermutation}
use Rattle.std.specs.FinMap.{entries}
use Rattle.store_meaning.specs.HashLayout.{Pairs, StandsForMap}
use Rattle.page_hash.specs.Chains.{pair_seen}
use Rattle.page_hash.proofs.BlockReads.{ok_then}
use Rattle.page_hash.proofs.ListedPairs.{listed_pairs, listed_few, listed_fit}
use Rattle.page_hash.proofs.listing.pairs.Goals as goal

pub in_order-requires-clause-pairs : goal.in_order-requires-clause-pairs
in_order-requires-clause-pairs g c =
    let mem = (g.Z.Frozen.snapshot c.args.z.now).mem in
    let of = c.requires.stands.0 in
    let store = c.requires.stands.1.0 in
    let is = c.requires.stands.1.1 in
    (of, listed_pairs mem store of c.in_ok-pairs.pairs.items is (c.in_ok-pairs.ensures.pairs store of is))

pub in_order-requires-clause-few : goal.in_order-requires-clause-few
in_order-requires-clause-few g c =
    let mem = (g.Z.Frozen.snapshot c.args.z.now).mem in
    let of = c.requires.stands.0 in
    let store = c.requires.stands.1.0 in
    let is = c.requires.stands.1.1 in
    listed_few mem store of c.in_ok-pairs.pairs.items is (c.in_ok-pairs.ensures.pairs store of is)

pub in_order-requires-clause-each : goal.in_order-requires-clause-each
in_order-requires-clause-each g c =
    let mem = (g.Z.Frozen.snapshot c.args.z.now).mem in
    let of = c.requires.stands.0 in
    let store = c.requires.stands.1.0 in
    let is = c.requires.stands.1.1 in
    listed_fit mem store of c.in_ok-pairs.pairs.items is (c.in_ok-pairs.ensures.pairs store of is)

pub returns-clause-pairs : goal.returns-clause-pairs
returns-clause-pairs g c =
    let mem = (g.Z.Frozen.snapshot c.args.z.now).mem in
    ok_then
    (λ list. (of : Pairs) → IsPermutation (map pair_seen c.in_ok-pairs.pairs.items) (entries of) → list ≡ entries of)
    (λ list. (of : Pairs) → StandsForMap mem of → list ≡ entries of) c.in_order.result
    (λ list is of stands.
    is of (listed_pairs mem stands.0 of c.in_ok-pairs.pairs.items stands.1 (c.in_ok-pairs.ensures.pairs stands.0 of stands.1)))
    c.in_order.ensures.list
