use Rattle.std.proofs.Common.{◌≡◌, ◌-◌, sym, ◌∙◌, ap, subst}
use Rattle.store_meaning.specs.Layout.{word_at}
use Rattle.page_hash.specs.Walks.{IsBlockOf, IsChainFrom, HasChain}
use Rattle.page_hash.proofs.ChainSteps.{has_block, located_at-end, located_at-here, located_at-past}
use Rattle.page_hash.proofs.chain.walk.Goals as goal

pub look_at-seen-requires-clause-block : goal.look_at-seen-requires-clause-block
look_at-seen-requires-clause-block g c =
    let block = has_block (g.M.Memory.state c.args.m.now).mem c.loop-at.at c.loop-at.left c.loop-at.invariant.left c.loop-at-test.true in
    (block.0, subst (λ s. IsBlockOf s.mem c.loop-at.at block.0) (sym c.loop-at.invariant.same) block.1.0)

pub returns-in-Some-clause-located : goal.returns-in-Some-clause-located
returns-in-Some-clause-located g c chain is =
    let mem = (g.M.Memory.state c.args.m.now).mem in
    let here = c.loop-at.invariant.rest chain is in
    let next : c.look_at-seen.result.next ≡ word_at mem c.loop-at.at =
    c.look_at-seen.ensures.next ∙ ap (λ s. word_at s.mem c.loop-at.at) c.loop-at.invariant.same in
    located_at-here mem c.loop-at.link c.loop-at.at c.look_at-seen.result.next c.in-Some.length here.0 c.args.key.now
    c.loop-at-test.true here.1.0 next
    (λ entry block. sym c.in-Some.is
    ∙ c.look_at-seen.ensures.value entry
    (subst (λ s. IsBlockOf s.mem c.loop-at.at entry) (sym c.loop-at.invariant.same) block))
    ∙ sym here.1.1

pub loop-at-preserved : goal.loop-at-preserved
loop-at-preserved g c =
    let mem = (g.M.Memory.state c.args.m.now).mem in
    let next : c.look_at-seen.result.next ≡ word_at mem c.loop-at.at =
    c.look_at-seen.ensures.next ∙ ap (λ s. word_at s.mem c.loop-at.at) c.loop-at.invariant.same in
    record {
      same = c.look_at-seen.ensures.same ∙ c.loop-at.invariant.same;
      aside = c.look_at-seen.ensures.aside ∙ c.loop-at.invariant.aside;
      went = g.met.M.Memory.went_on _ _ _ c.loop-at.invariant.went c.look_at-seen.ensures.went;
      rest = λ chain is.
          let here = c.loop-at.invariant.rest chain is in
          let past = located_at-past mem c.loop-at.link c.loop-at.at here.0 c.args.key.now c.loop-at-test.true here.1.0
          (λ entry block. sym c.in_default.is
          ∙ c.look_at-seen.ensures.value entry
          (subst (λ s. IsBlockOf s.mem c.loop-at.at entry) (sym c.loop-at.invariant.same) block)) in
          (past.0, (subst (λ a. IsChainFrom mem a past.0) (sym next) past.1.0, here.1.1 ∙ past.1.1));
      left = subst (λ a. HasChain mem a (c.loop-at.left - 1)) (sym next)
          (has_block mem c.loop-at.at c.loop-at.left c.loop-at.invariant.left c.loop-at-test.true).1.2;
    }

pub returns-clause-located : goal.returns-clause-located
returns-clause-located g c chain is =
    let mem = (g.M.Memory.state c.args.m.now).mem in
    let here = c.loop-at.invariant.rest chain is in
    sym (here.1.1 ∙ located_at-end mem c.loop-at.link here.0 c.args.key.now
    (subst (λ a. IsChainFrom mem a here.0) c.loop-at-test.false here.1.0))
