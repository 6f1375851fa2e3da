use Rattle.std.proofs.Common.{◌≡◌, ◌-◌, ◌∙◌, ap, sym, subst, arith}
use Rattle.std.specs.Prelude.{slice_index, slice_set}
use Rattle.store_meaning.specs.HeapLayout.{ArePresent}
use Rattle.vm_base.specs.MemoryState.{MemoryState}
use Rattle.page_hash.specs.Relinking.{KeepsPlace, MayRelink, with_word}
use Rattle.page_hash.proofs.BlockLinks.{keeps_on, may_on}
use Rattle.page_hash.proofs.ChainTurns.{Halfway, halfway_block, halfway_step, halfway_end}
use Rattle.page_hash.proofs.relinking.relink_chain.Goals as goal

pub block_head-block-requires-clause-block : goal.block_head-block-requires-clause-block
block_head-block-requires-clause-block g c =
    let here =
    halfway_block _ _ _ _ _ _ _ _ (c.loop-at.invariant.halfway c.requires.chain.0 c.requires.chain.1) c.loop-at-test.true in
    (here.0, (here.1.0, here.1.1))

pub relink_block-requires-clause-may : goal.relink_block-requires-clause-may
relink_block-requires-clause-may g c =
    subst MayRelink (sym c.block_head-block.ensures.same) (may_on _ _ c.requires.may c.loop-at.invariant.keeps)

pub relink_block-requires-clause-within : goal.relink_block-requires-clause-within
relink_block-requires-clause-within g c =
    let here =
    halfway_block _ _ _ _ _ _ _ _ (c.loop-at.invariant.halfway c.requires.chain.0 c.requires.chain.1) c.loop-at-test.true in
    (omega (arith, here.1.0, here.1.1.above), omega (arith, here.1.0, here.1.1.below))

pub relink_block-requires-clause-present : goal.relink_block-requires-clause-present
relink_block-requires-clause-present g c =
    let here =
    halfway_block _ _ _ _ _ _ _ _ (c.loop-at.invariant.halfway c.requires.chain.0 c.requires.chain.1) c.loop-at-test.true in
    subst (λ (s : MemoryState). ArePresent s.mem c.loop-at.at 8) (sym c.block_head-block.ensures.same)
    (subst (λ a. ArePresent (g.M.Memory.state c.loop-at.m).mem a 8) here.1.0 here.1.1.present)

pub overflow_sub-left : goal.overflow_sub-left
overflow_sub-left g c =
    let here =
    halfway_block _ _ _ _ _ _ _ _ (c.loop-at.invariant.halfway c.requires.chain.0 c.requires.chain.1) c.loop-at-test.true in
    omega (arith, here.1.2)

pub loop-at-smaller : goal.loop-at-smaller
loop-at-smaller g c =
    let here =
    halfway_block _ _ _ _ _ _ _ _ (c.loop-at.invariant.halfway c.requires.chain.0 c.requires.chain.1) c.loop-at-test.true in
    omega (arith, here.1.2)

pub loop-at-preserved : goal.loop-at-preserved
loop-at-preserved g c =
    let old = g.M.Memory.state c.args.m.now in
    let before = g.M.Memory.state c.loop-at.m in
    let read = g.M.Memory.state c.block_head-block.new.m in
    let after = g.M.Memory.state c.relink_block.new.m in
    let same : read ≡ before = c.block_head-block.ensures.same in
    record {
      keeps = keeps_on old before after c.loop-at.invariant.keeps
          (subst (λ s. KeepsPlace s after) same c.relink_block.ensures.keeps);
      aside = c.relink_block.ensures.aside ∙ c.block_head-block.ensures.aside ∙ c.loop-at.invariant.aside;
      went = g.met.M.Memory.went_on _ _ _ c.loop-at.invariant.went
          (g.met.M.Memory.went_on _ _ _ c.block_head-block.ensures.went c.relink_block.ensures.went);
      halfway = λ chain is.
          subst (λ m. Halfway old.mem m c.block_head-block.result.next (c.loop-at.left - 1)
          (slice_set c.loop-at.heads c.side_of-side.result c.loop-at.at) c.args.buckets c.args.bucket chain)
          (sym (c.relink_block.ensures.linked
          ∙ ap (λ (s : MemoryState). with_word s.mem c.loop-at.at (slice_index c.loop-at.heads c.side_of-side.result)) same))
          (halfway_step old.mem before.mem c.loop-at.at c.loop-at.left c.block_head-block.result.next c.block_head-block.result.hash
          c.side_of-side.result c.loop-at.heads c.args.buckets c.args.bucket chain (c.loop-at.invariant.halfway chain is)
          c.loop-at-test.true c.loop-at.invariant.keeps.kept.after.flat c.requires.few.0 c.block_head-block.ensures.next
          c.block_head-block.ensures.hash c.side_of-side.ensures.lower c.side_of-side.ensures.upper);
    }

pub returns-clause-splits : goal.returns-clause-splits
returns-clause-splits g c chain is =
    halfway_end _ _ c.loop-at.left _ _ _ chain
    (subst (λ a. Halfway (g.M.Memory.state c.args.m.now).mem (g.M.Memory.state c.loop-at.m).mem a c.loop-at.left c.loop-at.heads
    c.args.buckets c.args.bucket chain) c.loop-at-test.false (c.loop-at.invariant.halfway chain is))
