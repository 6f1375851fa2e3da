-- Chains of a snapshot, as they are read.
use Rattle.std.specs.Prelude.{◌≡◌, ⊤, ℕ, ◌+◌, ◌≤◌, List, [], ◌∷◌, ◌++◌, map, length}
use Rattle.std.specs.List.{flat_map, AllByRecursion}
use Rattle.vm_base.specs.Places.{cells_of_range}
use Rattle.vm_base.specs.FlatMemory.{FlatMemory}
use Rattle.vm_base.specs.SnapshotState.{SnapshotState}
use Rattle.store_meaning.specs.Layout.{word_at}
use Rattle.store_meaning.specs.HashLayout.{Entry, entry_pair}
use Rattle.store_meaning.specs.StoreSteps.{entry_cells}
use Rattle.page_hash.specs.declared.gathering.Pair.{Pair}
use Rattle.page_hash.specs.Walks.{IsChainFrom}
use Rattle.page_hash.specs.Listing.{AreNotLost}

-- the key and the value of a pair
abbrev pub pair_seen : Pair → List ℕ × List ℕ
pair_seen pair = (pair.key.items, pair.value.items)

-- the pairs of a chain were added behind the others, and none of its cells was found lost
pub record IsChainRead (old : SnapshotState) (chain : List Entry)
    (before after : List Pair) : Type 0 where
  pub pairs : map pair_seen after ≡ map pair_seen before ++ map entry_pair chain
  pub kept : AreNotLost old (flat_map entry_cells chain)

-- the chains of buckets that lie one behind another from the address on
abbrev pub AreLinkedFrom : FlatMemory → ℕ → List (List Entry) → Type 0
AreLinkedFrom memory at [] = ⊤
AreLinkedFrom memory at (chain ∷ chains) =
    IsChainFrom memory (word_at memory at) chain × AreLinkedFrom memory (at + 8) chains

-- the chains of n buckets from the address on
pub record AreChainsOf (memory : FlatMemory) (at n : ℕ) (chains : List (List Entry)) : Type 0 where
  pub many : length chains ≡ n
  pub linked : AreLinkedFrom memory at chains

-- the n buckets from the address on have chains, each of no more blocks than this
pub record HasChains (memory : FlatMemory) (at n most : ℕ) : Type 0 where
  pub chains : List (List Entry)
  pub are : AreChainsOf memory at n chains
  pub few : AllByRecursion (λ chain. length chain ≤ most) chains

-- the cells of these buckets, each with those of its chain
abbrev pub part_cells : ℕ → List (List Entry) → List ℕ
part_cells at [] = []
part_cells at (chain ∷ chains) =
    (cells_of_range at 8 ++ flat_map entry_cells chain) ++ part_cells (at + 8) chains

-- the pairs of these buckets were added behind the others, and none of their cells was found lost
pub record IsPartRead (old : SnapshotState) (at : ℕ) (chains : List (List Entry))
    (before after : List Pair) : Type 0 where
  pub pairs : map pair_seen after
      ≡ map pair_seen before ++ map entry_pair (flat_map (λ chain. chain) chains)
  pub kept : AreNotLost old (part_cells at chains)
