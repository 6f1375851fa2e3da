use Rattle.std.proofs.Common.{◌≡◌, ℕ, ◌+◌, ◌≤◌, List, [], length, Some, refl, sym, ◌∙◌, ap, subst, arith}
use Rattle.std.proofs.lemmas.Bool.{false≢true}
use Rattle.vm_base.specs.MemoryState.{MemoryState, IsKept}
use Rattle.vm_base.proofs.IsKeptOn.{IsKept-on}
use Rattle.store_meaning.specs.Layout.{class_of, pairs_field, store_cells, word_at}
use Rattle.store_meaning.specs.HashLayout.{Store, Pairs, IsStore, StandsForMap}
use Rattle.store_meaning.specs.Standing.{MayHoldStore, IsStanding}
use Rattle.page_hash.specs.Walks.{IsSearch}
use Rattle.page_hash.specs.Removing.{IsNamedBlock}
use Rattle.page_hash.specs.declared.chain.Located.{Located}
use Rattle.page_hash.specs.declared.search.Search.{Search}
use Rattle.page_hash.proofs.Cleared.{may_kept}
use Rattle.page_hash.proofs.Unlinking.{sound_named}
use Rattle.page_hash.proofs.Removals.{removes_pair, removes_none, removes_stays, named_there, none_contained, searched_some, searched_none, searched_pairs, kept_none}
use Rattle.page_hash.proofs.removing.remove.Goals as goal

short_of : (state : MemoryState) (key : List ℕ) (search : Search) (located : Located) → IsStanding state
    → search.located ≡ Some located
    → ((store : Store) (of : Pairs) → IsStore state.mem store of → IsSearch state.mem store key search)
    → located.length ≤ 1048576
short_of state key search located stands some says =
    (sound_named state.mem stands.stands.0 stands.pairs key located stands.stands.1
    (searched_some state.mem key search located (sym some) says stands.stands.0 stands.pairs stands.stands.1)).short

pub returns-in-None-clause-there : goal.returns-in-None-clause-there
returns-in-None-clause-there g c pairs stands =
    none_contained _ stands.0 pairs _ stands.1
    (searched_none _ _ c.locate-search.result (sym c.in-None.is) c.locate-search.ensures.search stands.0 pairs stands.1)

pub returns-in-None-clause-removed : goal.returns-in-None-clause-removed
returns-in-None-clause-removed g c =
    removes_none _ _ c.args.key.now c.locate-search.ensures.same
    (searched_none _ _ c.locate-search.result (sym c.in-None.is) c.locate-search.ensures.search)

pub returns-in-None-clause-keeps : goal.returns-in-None-clause-keeps
returns-in-None-clause-keeps g c =
    let state = g.M.Memory.state c.args.m.now in
    removes_stays _ _ c.args.key.now c.requires.stands
    (subst (λ s. IsKept state s store_cells) (sym c.locate-search.ensures.same) (kept_none state c.locate-search.ensures.sound))
    (returns-in-None-clause-removed g c)

pub overflow_add-key-in-Some : goal.overflow_add-key-in-Some
overflow_add-key-in-Some g c = omega (
  arith,
  c.requires.key,
  short_of _ _ _ _ c.requires.stands c.in-Some.is c.locate-search.ensures.search,
)

pub class_for-class-requires : goal.class_for-class-requires
class_for-class-requires g c = omega (
  arith,
  c.requires.key,
  short_of _ _ _ _ c.requires.stands c.in-Some.is c.locate-search.ensures.search,
)

pub touch_named-requires-clause-named : goal.touch_named-requires-clause-named
touch_named-requires-clause-named g c =
    let class = class_of (16 + length c.args.key.now + c.in-Some.block.length) in (
      class,
      subst (λ (s : MemoryState). IsNamedBlock s.mem c.in-Some.block class) (sym c.locate-search.ensures.same) (record {
        key = c.args.key.now;
        named = searched_some _ _ c.locate-search.result _ (sym c.in-Some.is) c.locate-search.ensures.search;
        class_is = refl;
      }),
    )

pub unlink-requires-clause-stands : goal.unlink-requires-clause-stands
unlink-requires-clause-stands g c =
    let same = c.touch_named.ensures.mem ∙ ap (λ (s : MemoryState). s.mem) c.locate-search.ensures.same in
    record {
      may = may_kept _ _ c.touch_named.ensures.keeps
          (subst MayHoldStore (sym c.locate-search.ensures.same) c.requires.stands.may);
      pairs = c.requires.stands.pairs;
      stands = subst (λ m. StandsForMap m c.requires.stands.pairs) (sym same) c.requires.stands.stands;
    }

pub unlink-requires-clause-named : goal.unlink-requires-clause-named
unlink-requires-clause-named g c =
    let same = c.touch_named.ensures.mem ∙ ap (λ (s : MemoryState). s.mem) c.locate-search.ensures.same in
    subst (λ m. IsNamedBlock m c.in-Some.block c.class_for-class.result) (sym same) (record {
      key = c.args.key.now;
      named = searched_some _ _ c.locate-search.result _ (sym c.in-Some.is) c.locate-search.ensures.search;
      class_is = c.class_for-class.ensures.least;
    })

pub unlink-requires-clause-pairs : goal.unlink-requires-clause-pairs
unlink-requires-clause-pairs g c =
    let stands = c.requires.stands in
    searched_pairs _ c.args.key.now c.locate-search.result stands.stands.0 stands.pairs stands.stands.1
    (c.locate-search.ensures.search stands.stands.0 stands.pairs stands.stands.1)
    ∙ ap (λ m. word_at m pairs_field)
    (sym (c.touch_named.ensures.mem ∙ ap (λ (s : MemoryState). s.mem) c.locate-search.ensures.same))

pub returns-in-Some-clause-there : goal.returns-in-Some-clause-there
returns-in-Some-clause-there g c pairs stands =
    named_there _ stands.0 pairs _ c.in-Some.block stands.1
    (searched_some _ _ c.locate-search.result _ (sym c.in-Some.is) c.locate-search.ensures.search stands.0 pairs stands.1)

pub returns-in-Some-clause-removed : goal.returns-in-Some-clause-removed
returns-in-Some-clause-removed g c =
    let stands = c.requires.stands in
    removes_pair _ (g.M.Memory.state c.touch_named.new.m) _ c.args.key.now c.in-Some.block c.class_for-class.result
    c.locate-search.result.head.pairs stands
    (c.touch_named.ensures.mem ∙ ap (λ (s : MemoryState). s.mem) c.locate-search.ensures.same)
    (c.touch_named.ensures.most ∙ ap (λ (s : MemoryState). s.most) c.locate-search.ensures.same)
    c.unlink.ensures.keeps.before
    (searched_some _ _ c.locate-search.result _ (sym c.in-Some.is) c.locate-search.ensures.search)
    c.class_for-class.ensures.least c.touch_named.ensures.ready
    (searched_pairs _ c.args.key.now c.locate-search.result stands.stands.0 stands.pairs stands.stands.1
    (c.locate-search.ensures.search stands.stands.0 stands.pairs stands.stands.1))
    c.unlink.ensures.stored.1 c.unlink.ensures.stored.0

pub returns-in-Some-clause-keeps : goal.returns-in-Some-clause-keeps
returns-in-Some-clause-keeps g c =
    removes_stays _ _ c.args.key.now c.requires.stands
    (subst (λ s. IsKept s (g.M.Memory.state c.unlink.new.m) store_cells) c.locate-search.ensures.same
    (IsKept-on _ _ _ store_cells [] store_cells c.touch_named.ensures.keeps c.unlink.ensures.keeps (λ cell is. is)
    (λ cell never. absurd (false≢true never))))
    (returns-in-Some-clause-removed g c)

pub returns-in-Some-clause-went : goal.returns-in-Some-clause-went
returns-in-Some-clause-went g c = g.met.M.Memory.went_on _ _ _ c.locate-search.ensures.went
    (g.met.M.Memory.went_on _ _ _ c.touch_named.ensures.went c.unlink.ensures.went)
