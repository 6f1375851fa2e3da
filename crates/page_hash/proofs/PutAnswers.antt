-- What a put answers, put together from its touches and its stores.
use Rattle.std.proofs.Common.{◌≡◌, ℕ, ◌≤◌, eqb, cond, Bool, true, false, List, [], ◌∷◌, ◌++◌, length, Option, Some, None, is_some, sym, ◌∙◌}
use Rattle.std.specs.FinMap.{get, insert}
use Rattle.std.specs.List.{AllZip}
use Rattle.std.proofs.lemmas.List.{length-set}
use Rattle.vm_base.specs.Counts.{Rose}
use Rattle.vm_base.specs.MemoryState.{MemoryState}
use Rattle.store_meaning.specs.Layout.{classes}
use Rattle.store_meaning.specs.HashLayout.{Entry, Store, Pairs, IsStore, pair_class}
use Rattle.store_meaning.specs.StoreSteps.{entry_for, put_by, put_in, with_value, with_moved}
use Rattle.store_meaning.specs.Reach.{Place, At, reach_of}
use Rattle.store_meaning.specs.Standing.{Stands, blocks_in}
use Rattle.page_hash.specs.Puts.{PutIsPresent, AddsOnly, MeetsBlock, MeetsPlace, Places, PlaceFails}
use Rattle.page_hash.proofs.PutStanding.{ReadsAlike, KeepsTo, keeps_stored, stands_by, store_alike, present_alike}

-- a put changes no count of buckets
pub by_chains : (store : Store) (key value : List ℕ) (found : Option Entry)
    → length (put_by store key value found).table.chains ≡ length store.table.chains
by_chains store key value None = length-set store.table.chains _ _
by_chains store key value (Some entry) = by (eqb (pair_class entry.key entry.value) (pair_class entry.key value))
  where
    by : (b : Bool) → length (cond b (with_value store entry value) (with_moved store entry value)).table.chains ≡ length store.table.chains
    by true = length-set store.table.chains _ _
    by false = length-set store.table.chains _ _

-- of one touched memory after another: it stands for the map with one place more
abbrev pub KeepsMore : MemoryState → MemoryState → List ℕ → List ℕ → Type 0
KeepsMore old new key value = (of : Pairs) (before : ℕ) (gone : List Place) (stands : Stands old of before gone)
    → KeepsTo new stands.store of before (gone ++ At (insert of key value) ∷ [])

-- the blocks behind the put keep within the peaks
abbrev pub KeepsBlocks : MemoryState → List ℕ → List ℕ → Type 0
KeepsBlocks old key value = (of : Pairs) (before : ℕ) (gone : List Place) (stands : Stands old of before gone)
    → AllZip (λ class peak. blocks_in (put_in stands.store key value).heap class ≤ peak) classes
    (reach_of (gone ++ At (insert of key value) ∷ [])).peaks

-- each store has become that of the put
abbrev pub PutsStore : MemoryState → MemoryState → List ℕ → List ℕ → Type 0
PutsStore old new key value = (store : Store) (of : Pairs) → IsStore old.mem store of
    → IsStore new.mem (put_in store key value) (insert of key value)

-- a put that was made: touches first, and then stores
pub places_by : (old ready new : MemoryState) (key value : List ℕ) → PutsStore old new key value → KeepsMore old ready key value
    → KeepsBlocks old key value → ((page : ℕ) → is_some (get new.mem.present page) ≡ is_some (get ready.mem.present page))
    → new.most ≡ ready.most
    → ((store : Store) (of : Pairs) → IsStore old.mem store of → AddsOnly old ready (MeetsPlace store key value))
    → Places old new key value
places_by old ready new key value puts keeps blocks pages most adds = record {
  follows = record {
    map = λ of stands. (put_in stands.0 key value, puts stands.0 of stands.1);
    within = λ of before gone stands.
        stands_by new (put_in stands.store key value) (insert of key value) before (gone ++ At (insert of key value) ∷ [])
        (keeps_stored ready new stands.store (put_in stands.store key value) of (insert of key value) before
        (gone ++ At (insert of key value) ∷ []) (λ page there. sym (pages page) ∙ there) most
        (puts stands.store of stands.stands) (blocks of before gone stands)
        (by_chains stands.store key value (entry_for stands.store key)) (keeps of before gone stands));
  };
  store = puts;
  pages = λ store of is page there absent. adds store of is page (sym (pages page) ∙ there) absent;
}

-- a put that was refused
pub fails_by : (old new : MemoryState) (key value : List ℕ) (at : ℕ) → Rose old.refused new.refused → at ≡ new.refused
    → ReadsAlike old.mem new.mem → KeepsMore old new key value
    → ((store : Store) (of : Pairs) → IsStore old.mem store of → PutIsPresent new.mem store key value → ⊥)
    → ((store : Store) (of : Pairs) → IsStore old.mem store of → AddsOnly old new (MeetsBlock store key value))
    → PlaceFails old new key value at
fails_by old new key value at rose told alike keeps lacks adds = record {
  fails = record {
    rose = rose;
    told = told;
    follows = record {
      map = λ of stands. (stands.0, store_alike old.mem new.mem stands.0 of alike stands.1);
      within = λ of before gone stands.
          stands_by new stands.store of before (gone ++ At (insert of key value) ∷ []) (keeps of before gone stands);
    };
    store = λ store of is. store_alike old.mem new.mem store of alike is;
    lacks = lacks;
    pages = adds;
  };
  lacked = λ store of is there. lacks store of is (record {
    block = present_alike old.mem new.mem _ _ alike there.block;
    bucket = present_alike old.mem new.mem _ _ alike there.bucket;
  });
}
