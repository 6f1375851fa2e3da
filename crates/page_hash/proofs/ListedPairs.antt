-- What was gathered from a store may be listed.
use Rattle.std.proofs.Common.{◌≡◌, ◌≤◌, List, length, map, sym, ◌∙◌, ap, subst, arith, IsPermutation}
use Rattle.std.specs.List.{AllByRecursion}
use Rattle.std.specs.FinMap.{entries}
use Rattle.std.proofs.lemmas.List.{length-map}
use Rattle.std.proofs.lemmas.List.Elements.{recursion_from_All}
use Rattle.vm_base.specs.FlatMemory.{FlatMemory}
use Rattle.store_meaning.specs.HashLayout.{Entry, Holds, Store, Pairs, IsStore, entry_pair, entries_of}
use Rattle.store_meaning.proofs.Lists.{all_mono, map_all}
use Rattle.image_text.specs.Image.{FitsImage}
use Rattle.page_hash.specs.declared.gathering.Pair.{Pair}
use Rattle.page_hash.specs.Chains.{pair_seen}
use Rattle.page_hash.proofs.NewParts.{entries_few}

-- they are the pairs of the map
pub listed_pairs : (memory : FlatMemory) (store : Store) (of : Pairs) (pairs : List Pair) → IsStore memory store of
    → map pair_seen pairs ≡ map entry_pair (entries_of store.table) → IsPermutation (map pair_seen pairs) (entries of)
listed_pairs memory store of pairs is read = subst (λ l. IsPermutation l (entries of)) (sym read) is.pairs

-- a heap has no room for more
pub listed_few : (memory : FlatMemory) (store : Store) (of : Pairs) (pairs : List Pair) → IsStore memory store of
    → map pair_seen pairs ≡ map entry_pair (entries_of store.table) → length pairs ≤ 268435456
listed_few memory store of pairs is read =
    omega (
      arith,
      entries_few memory store of is,
      sym (length-map pairs pair_seen) ∙ ap length read ∙ length-map (entries_of store.table) entry_pair,
    )

-- keys and values are within their limits
pub listed_fit : (memory : FlatMemory) (store : Store) (of : Pairs) (pairs : List Pair) → IsStore memory store of
    → map pair_seen pairs ≡ map entry_pair (entries_of store.table) → AllByRecursion FitsImage (map pair_seen pairs)
listed_fit memory store of pairs is read =
    subst (AllByRecursion FitsImage) (sym read)
    (map_all FitsImage entry_pair (entries_of store.table)
    (all_mono (Holds memory) (λ (entry : Entry). FitsImage (entry_pair entry)) (entries_of store.table)
    (λ entry holds. (holds.short_key, holds.short_value))
    (recursion_from_All (Holds memory) (entries_of store.table) is.table.held)))
