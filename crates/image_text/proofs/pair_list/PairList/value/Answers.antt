use Rattle.std.proofs.Common.{◌≡◌, ◌<◌, List, ℕ, [], length, get_or, ap, ◌∙◌, arith}
use Rattle.image_text.specs.Pairs.{pairs_between}
use Rattle.image_text.specs.declared.pair_end.PairEnd.{PairEnd}
use Rattle.image_text.proofs.Buffers.{length-pairs_between}
use Rattle.image_text.proofs.Rising.{fits_at}
use Rattle.image_text.proofs.pair_list.PairList.value.Goals as goal

pub value_at-requires-clause-within : goal.value_at-requires-clause-within
value_at-requires-clause-within c =
    let count = length-pairs_between 0 c.self.inside.bytes.items c.self.inside.ends.items in
    omega (arith, count, ap length c.self.view_is, ap length c.deref-2.ensures.value, c.requires)

pub returns-clause-fits : goal.returns-clause-fits
returns-clause-fits c =
    let inside = c.self.inside in
    let pairs : List (List ℕ × List ℕ) = pairs_between 0 inside.bytes.items inside.ends.items in
    let within : c.args.i < length pairs = omega (arith, ap length c.self.view_is, c.requires) in
    let same : c.value_at.result.now ≡ (get_or pairs c.args.i ([], [])).1 =
    c.value_at.ensures ∙ ap (λ (bytes : List ℕ). (get_or
    (pairs_between 0 bytes c.deref-2.result.now) c.args.i ([], [])).1) c.deref.ensures.value
    ∙ ap (λ (ends : List PairEnd). (get_or (pairs_between 0 inside.bytes.items ends) c.args.i
    ([], [])).1) c.deref-2.ensures.value in
    omega (
      arith,
      ap length same,
      (fits_at pairs c.args.i
          ([], []) within c.self.invariant.1.each).1,
    )
