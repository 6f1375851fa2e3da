-- Where no place is free there are as many tables as places.
use Rattle.std.proofs.Common.{◌≤◌, length, arith}
use Rattle.table_levels.specs.Walks.{tables_at}
use Rattle.table_levels.proofs.Links.{all_full}
use Rattle.table_levels.proofs.linking.free_place.Goals as goal

pub returns-clause-free : goal.returns-clause-free
returns-clause-free c =
    let full : length c.args.places.now ≤ tables_at c.args.places.now =
    all_full c.args.places.now (λ k lt. c.loop-i.invariant k (omega (arith, c.loop-i-test.false))) in
    absurd (omega (arith, full, c.requires))
