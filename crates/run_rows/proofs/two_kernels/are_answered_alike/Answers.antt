-- An access is served in any world, and leaves the plain kernel's snapshots.
use Rattle.std.proofs.Common.{refl, ◌∙◌, ap, arith}
use Rattle.run_rows.proofs.UnforkedNumbers.{above-unforked, at-most-unforked}
use Rattle.run_rows.proofs.two_kernels.are_answered_alike.Goals as goal

pub loop-init : goal.loop-init
loop-init g c = record { snapshots = refl; last = refl; given = omega arith }

pub is_answered_alike-requires : goal.is_answered_alike-requires
is_answered_alike-requires g c = record {
  served = c.in_ok-plain_event.ensures.served c.loop.plain;
  numbered = above-unforked _ _ c.in_ok-plain_event.ensures.unforked;
}

pub loop-preserved : goal.loop-preserved
loop-preserved g c =
    let kept = c.in_ok-plain_event.ensures.kept c.loop.plain in
    record {
      snapshots = ap (λ world. world.snapshots) c.in_ok-alike.ensures.world ∙ kept.0 ∙ c.loop.invariant.snapshots;
      last = ap (λ world. world.last) c.in_ok-alike.ensures.world ∙ kept.1 ∙ c.loop.invariant.last;
      given = at-most-unforked _ _ _ _ c.in_ok-plain_event.ensures.unforked c.in_ok-alike.ensures.last c.loop.invariant.given;
    }

pub returns : goal.returns
returns g c = record { kept = (c.loop.invariant.snapshots, c.loop.invariant.last); last = c.loop.invariant.given }
