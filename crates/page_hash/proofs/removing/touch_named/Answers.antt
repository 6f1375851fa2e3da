use Rattle.std.proofs.Common.{ℕ, sym, ◌∙◌, subst, arith}
use Rattle.vm_base.specs.FlatMemory.{FlatMemory}
use Rattle.vm_base.proofs.IsKeptOn.{IsKept-on}
use Rattle.store_meaning.specs.Layout.{header_at, store_cells}
use Rattle.store_meaning.specs.HeapLayout.{ArePresent}
use Rattle.page_hash.specs.Touching.{IsOfStore}
use Rattle.page_hash.specs.Removing.{IsNamedBlock}
use Rattle.page_hash.specs.declared.chain.Located.{Located}
use Rattle.page_hash.proofs.Cleared.{may_kept}
use Rattle.page_hash.proofs.Unlinking.{CanTouch, can_touch}
use Rattle.page_hash.proofs.removing.touch_named.Goals as goal

-- what the touches need of the memory before them
touch_needs : (memory : FlatMemory) (located : Located)
    → ((class : ℕ) × IsNamedBlock memory located class)
    → ((pairs : Rattle.store_meaning.specs.HashLayout.Pairs) × Rattle.store_meaning.specs.HashLayout.StandsForMap memory pairs)
    → CanTouch memory located
touch_needs memory located named stands =
    can_touch memory stands.1.0 stands.0 named.1.key located stands.1.1 (named.1.named stands.1.0 stands.0 stands.1.1)

pub touch_present-requires-clause-range : goal.touch_present-requires-clause-range
touch_present-requires-clause-range g c =
    (touch_needs _ _ c.requires.named (c.requires.stands.pairs, c.requires.stands.stands)).link

pub touch_present-requires-clause-present : goal.touch_present-requires-clause-present
touch_present-requires-clause-present g c =
    (omega arith, (touch_needs _ _ c.requires.named (c.requires.stands.pairs, c.requires.stands.stands)).link_there)

pub touch_present-requires-2-clause-may : goal.touch_present-requires-2-clause-may
touch_present-requires-2-clause-may g c = may_kept _ _ c.touch_present.ensures.keeps c.requires.stands.may

pub touch_present-requires-2-clause-range : goal.touch_present-requires-2-clause-range
touch_present-requires-2-clause-range g c =
    subst (λ m. IsOfStore m c.args.block.now.at 8) (sym c.touch_present.ensures.ready.mem)
    (touch_needs _ _ c.requires.named (c.requires.stands.pairs, c.requires.stands.stands)).block

pub touch_present-requires-2-clause-present : goal.touch_present-requires-2-clause-present
touch_present-requires-2-clause-present g c = (
  omega arith,
  subst (λ m. ArePresent m c.args.block.now.at 8) (sym c.touch_present.ensures.ready.mem)
      (touch_needs _ _ c.requires.named (c.requires.stands.pairs, c.requires.stands.stands)).block_there,
)

pub touch_present-requires-3-clause-may : goal.touch_present-requires-3-clause-may
touch_present-requires-3-clause-may g c =
    may_kept _ _ c.touch_present-2.ensures.keeps (may_kept _ _ c.touch_present.ensures.keeps c.requires.stands.may)

pub touch_present-requires-3-clause-range : goal.touch_present-requires-3-clause-range
touch_present-requires-3-clause-range g c =
    subst (λ m. IsOfStore m header_at 4096) (sym (c.touch_present-2.ensures.ready.mem ∙ c.touch_present.ensures.ready.mem))
    (touch_needs _ _ c.requires.named (c.requires.stands.pairs, c.requires.stands.stands)).header

pub touch_present-requires-3-clause-present : goal.touch_present-requires-3-clause-present
touch_present-requires-3-clause-present g c = (
  omega arith,
  subst (λ m. ArePresent m header_at 4096)
      (sym (c.touch_present-2.ensures.ready.mem ∙ c.touch_present.ensures.ready.mem))
      (touch_needs _ _ c.requires.named (c.requires.stands.pairs, c.requires.stands.stands)).header_there,
)

pub returns-clause-ready : goal.returns-clause-ready
returns-clause-ready g c =
    let two = c.touch_present-2.ensures.ready in
    let three = c.touch_present-3.ensures.ready in
    record {
      link = λ page inside. three.keeps page (two.keeps page (c.touch_present.ensures.ready.ready page inside));
      block = λ page inside. three.keeps page (two.ready page inside);
      header = three.ready;
    }

pub returns-clause-keeps : goal.returns-clause-keeps
returns-clause-keeps g c =
    IsKept-on _ _ _ store_cells store_cells store_cells c.touch_present.ensures.keeps
    (IsKept-on _ _ _ store_cells store_cells store_cells c.touch_present-2.ensures.keeps c.touch_present-3.ensures.keeps
    (λ cell is. is) (λ cell is. is)) (λ cell is. is) (λ cell is. is)

pub returns-clause-went : goal.returns-clause-went
returns-clause-went g c = g.met.M.Memory.went_on _ _ _ c.touch_present.ensures.went
    (g.met.M.Memory.went_on _ _ _ c.touch_present-2.ensures.went c.touch_present-3.ensures.went)
