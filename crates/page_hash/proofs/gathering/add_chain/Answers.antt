use Rattle.std.proofs.Common.{◌≡◌, ◌∙◌, ◌-◌, refl, sym, ap, subst}
use Rattle.std.proofs.lemmas.Result.{err_from_is_err_and}
use Rattle.store_meaning.specs.Layout.{word_at}
use Rattle.page_hash.specs.declared.gathering.Pair.{Pair}
use Rattle.page_hash.specs.Walks.{IsBlockOf, HasChain}
use Rattle.page_hash.proofs.ChainSteps.{has_block}
use Rattle.page_hash.proofs.SnapshotsKept.{keeps_on}
use Rattle.page_hash.proofs.ListedChains.{chain_next, chain_stops, chain_ends}
use Rattle.page_hash.proofs.gathering.add_chain.Goals as goal

pub read_block-requires-clause-block : goal.read_block-requires-clause-block
read_block-requires-clause-block g c =
    let block = has_block (g.Z.Frozen.snapshot c.args.z.now).mem c.loop-at.at c.loop-at.left c.loop-at.invariant.left c.loop-at-test.true in
    (block.0, subst (λ memory. IsBlockOf memory c.loop-at.at block.0) (sym c.loop-at.invariant.keeps.goes_on.mem) block.1.0)

pub returns-in_err-block-clause-lost : goal.returns-in_err-block-clause-lost
returns-in_err-block-clause-lost g c =
    let old = g.Z.Frozen.snapshot c.args.z.now in
    let mid = g.Z.Frozen.snapshot c.loop-at.z in
    let new = g.Z.Frozen.snapshot c.read_block.new.z in
    let p = err_from_is_err_and c.from_residual.result c.from_residual.ensures.1 in
    rw (p.1, p.2) (λ chain is.
    chain_stops old mid new chain c.loop-at.at c.args.pairs.now.items c.loop-at.pairs.items c.in_err-block.field-0.0 c.loop-at-test.true
    c.loop-at.invariant.keeps.goes_on (c.loop-at.invariant.so_far chain is) c.in_err-block.ensures.lost)

pub loop-at-preserved : goal.loop-at-preserved
loop-at-preserved g c =
    let old = g.Z.Frozen.snapshot c.args.z.now in
    let mid = g.Z.Frozen.snapshot c.loop-at.z in
    let block = has_block old.mem c.loop-at.at c.loop-at.left c.loop-at.invariant.left c.loop-at-test.true in
    let told = c.in_ok-block.ensures.read block.0
    (subst (λ memory. IsBlockOf memory c.loop-at.at block.0) (sym c.loop-at.invariant.keeps.goes_on.mem) block.1.0) in
    let next : c.in_ok-block.block.next ≡ word_at old.mem c.loop-at.at =
    told.next ∙ ap (λ memory. word_at memory block.0.at) c.loop-at.invariant.keeps.goes_on.mem
    ∙ ap (word_at old.mem) block.1.0.here in
    let pair : Pair = record { key = c.in_ok-block.block.key; value = c.in_ok-block.block.value } in
    record {
      keeps = keeps_on _ _ _ c.loop-at.invariant.keeps c.read_block.ensures.keeps;
      uncounted = c.read_block.ensures.uncounted ∙ c.loop-at.invariant.uncounted;
      aside = c.read_block.ensures.aside ∙ c.loop-at.invariant.aside;
      went = g.met.Z.Frozen.went_on _ _ _ c.loop-at.invariant.went c.read_block.ensures.went;
      so_far = λ chain is.
          chain_next old mid chain c.loop-at.at c.args.pairs.now.items c.loop-at.pairs.items c.push.new.self.items pair
          c.in_ok-block.block c.loop-at-test.true c.loop-at.invariant.keeps.goes_on (c.loop-at.invariant.so_far chain is)
          c.in_ok-block.ensures.read refl c.in_ok-push.ensures.items;
      left = subst (λ a. HasChain old.mem a (c.loop-at.left - 1)) (sym next) block.1.2;
    }

pub returns-clause-read : goal.returns-clause-read
returns-clause-read g c chain is =
    chain_ends (g.Z.Frozen.snapshot c.args.z.now) chain c.loop-at.at c.args.pairs.now.items c.loop-at.pairs.items c.loop-at-test.false
    (c.loop-at.invariant.so_far chain is)
