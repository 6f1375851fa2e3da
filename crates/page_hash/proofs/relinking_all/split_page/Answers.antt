use Rattle.std.proofs.Common.{◌≡◌, ◌+◌, ◌*◌, ◌<◌, ◌≤◌, ◌∙◌, length, ap, sym, subst, arith}
use Rattle.std.specs.Prelude.{slice_index}
use Rattle.store_meaning.specs.HashLayout.{chain_of}
use Rattle.store_meaning.proofs.HeapSteps.{KeepsPages}
use Rattle.page_hash.specs.Relinking.{IsChainOf}
use Rattle.page_hash.specs.ArrayRelinking.{SplitsPart}
use Rattle.page_hash.proofs.BlockLinks.{keeps_on, may_on}
use Rattle.page_hash.proofs.PageRelinks.{split_chain, splits_more, word_set, word_length}
use Rattle.page_hash.proofs.relinking_all.split_page.Goals as goal

pub relink_chain-heads-requires-clause-may : goal.relink_chain-heads-requires-clause-may
relink_chain-heads-requires-clause-may g c = may_on _ _ c.requires.may c.loop-place.invariant.keeps

pub relink_chain-heads-requires-clause-chain : goal.relink_chain-heads-requires-clause-chain
relink_chain-heads-requires-clause-chain g c =
    let old = g.M.Memory.state c.args.m.now in
    let mid = g.M.Memory.state c.loop-place.m in
    let arrays = c.args.arrays.now in
    let bucket = c.args.bucket + c.loop-place.place in
    let table = c.requires.table.0 in (
      chain_of table bucket,
      subst (λ w. IsChainOf mid.mem w arrays.pairs arrays.buckets bucket (chain_of table bucket)) (sym c.word_at_place-first.ensures)
          (split_chain old.mem mid.mem arrays table c.args.bucket c.loop-place.place c.args.firsts.now c.loop-place.lower c.loop-place.upper
          c.requires.table.1 (omega (arith, c.requires.page.0, c.loop-place-test.true)) (omega (arith, c.loop-place-test.true))
          c.loop-place.invariant.keeps.areas (λ page there. c.loop-place.invariant.keeps.pages page ∙ there)
          (c.loop-place.invariant.splits table c.requires.table.1) c.requires.words),
    )

pub loop-place-preserved : goal.loop-place-preserved
loop-place-preserved g c =
    let old = g.M.Memory.state c.args.m.now in
    let mid = g.M.Memory.state c.loop-place.m in
    let new = g.M.Memory.state c.relink_chain-heads.new.m in
    let arrays = c.args.arrays.now in
    let place = c.loop-place.place in
    let bucket = c.args.bucket + place in
    let heads = c.relink_chain-heads.result in
    let pages : KeepsPages old.mem mid.mem = λ page there. c.loop-place.invariant.keeps.pages page ∙ there in
    let inside : bucket < arrays.buckets = omega (arith, c.requires.page.0, c.loop-place-test.true) in
    let room_low : 8 * place + 8 ≤ length c.loop-place.lower = omega (arith, c.loop-place.invariant.rooms.0, c.loop-place-test.true) in
    let room_high : 8 * place + 8 ≤ length c.loop-place.upper = omega (arith, c.loop-place.invariant.rooms.1, c.loop-place-test.true) in
    record {
      keeps = keeps_on old mid new c.loop-place.invariant.keeps c.relink_chain-heads.ensures.keeps;
      aside = c.relink_chain-heads.ensures.aside ∙ c.loop-place.invariant.aside;
      went = g.met.M.Memory.went_on _ _ _ c.loop-place.invariant.went c.relink_chain-heads.ensures.went;
      rooms = (
        ap length c.set_word.ensures ∙ word_length c.loop-place.lower place (slice_index heads 0) room_low ∙ c.loop-place.invariant.rooms.0,
        ap length c.set_word-in-loop-place.ensures ∙ word_length c.loop-place.upper place (slice_index heads 1) room_high
            ∙ c.loop-place.invariant.rooms.1,
      );
      splits = λ table is.
          let part = c.loop-place.invariant.splits table is in
          let chain : IsChainOf mid.mem c.word_at_place-first.result arrays.pairs arrays.buckets bucket (chain_of table bucket) =
          subst (λ w. IsChainOf mid.mem w arrays.pairs arrays.buckets bucket (chain_of table bucket)) (sym c.word_at_place-first.ensures)
          (split_chain old.mem mid.mem arrays table c.args.bucket place c.args.firsts.now c.loop-place.lower c.loop-place.upper is inside
          (omega (arith, c.loop-place-test.true)) c.loop-place.invariant.keeps.areas pages part c.requires.words) in
          subst (λ l. SplitsPart old.mem new.mem arrays table c.args.bucket (c.args.bucket + (place + 1)) l
          c.set_word-in-loop-place.new.words) (sym c.set_word.ensures)
          (subst (SplitsPart old.mem new.mem arrays table c.args.bucket (c.args.bucket + (place + 1))
          (word_set c.loop-place.lower place (slice_index heads 0))) (sym c.set_word-in-loop-place.ensures)
          (splits_more old.mem mid.mem new.mem arrays table c.args.bucket place heads c.loop-place.lower c.loop-place.upper is inside pages
          room_low room_high part (c.relink_chain-heads.ensures.splits (chain_of table bucket) chain)));
    }

pub returns-clause-splits : goal.returns-clause-splits
returns-clause-splits g c table is =
    let all : c.loop-place.place ≡ 512 = omega (arith, c.loop-place.auto.place-end, c.loop-place-test.false) in
    subst (λ k. SplitsPart (g.M.Memory.state c.args.m.now).mem (g.M.Memory.state c.loop-place.m).mem c.args.arrays.now table c.args.bucket
    (c.args.bucket + k) c.loop-place.lower c.loop-place.upper) all (c.loop-place.invariant.splits table is)
