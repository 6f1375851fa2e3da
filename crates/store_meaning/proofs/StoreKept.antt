-- A store is read from the bytes of its own ranges, and from which pages are present.
use Rattle.std.proofs.Common.{◌≡◌, ℕ, zero, suc, ◌+◌, ◌-◌, ◌*◌, ◌<◌, ◌≤◌, List, [], ◌∷◌, ◌++◌, length, map, get_or, sym, ◌∙◌, ap, subst, arith, inl, inr}
use Rattle.std.specs.List.{AllByRecursion, flat_map, range_with_len}
use Rattle.std.proofs.lemmas.Bool.{cases_eq}
use Rattle.std.proofs.lemmas.List.Elements.{recursion_from_All, All-from_recursion}
use Rattle.std.proofs.lemmas.List.FromFn.{get_or-map-range_with_len}
use Rattle.byteorder.specs.Endian.{big_number}
use Rattle.vm_base.specs.FlatMemory.{PageMap, FlatMemory, byte_at, bytes_at}
use Rattle.vm_base.proofs.FlatLaws.{bytes_at-alike}
use Rattle.store_meaning.specs.Layout.{classes, list_field, word_at}
use Rattle.store_meaning.specs.HeapLayout.{Block, free_of}
use Rattle.store_meaning.specs.HashLayout.{Entry, Store, Pairs, Holds, IsStore, pair_size, chain_of, entries_of}
use Rattle.store_meaning.specs.Owned.{Range, word_range, table_ranges, header_ranges, bucket_ranges, entry_range, free_range, block_ranges, owned, AreSameIn}
use Rattle.store_meaning.proofs.Lists.{all_mono, all_left, all_right, all_map, map_all, all_among, all_contained, class_within}
use Rattle.store_meaning.proofs.Chains.{Links-kept}
use Rattle.store_meaning.proofs.HeapSteps.{KeepsPages, heap_kept}

-- one byte of a range
byte_of : (present : PageMap) (address n q : ℕ) → address ≤ q → q < address + n → get_or (bytes_at present address n) (q - address) 0
    ≡ byte_at present q
byte_of present address n q low high =
    let place : address + (q - address) ≡ q = omega (arith, low) in
    get_or-map-range_with_len (byte_at present) address n (q - address) q 0 (omega (arith, low, high)) place

-- where the bytes of a range are the same, so are those of a part of it
pub part_same : (one two : PageMap) (address n other size : ℕ) → bytes_at two address n ≡ bytes_at one address n → address ≤ other
    → other + size ≤ address + n
    → bytes_at two other size ≡ bytes_at one other size
part_same one two address n other size same low high = bytes_at-alike size other two one (λ q above below.
    sym (byte_of two address n q (omega (arith, low, above)) (omega (arith, high, below))) ∙ ap (λ l. get_or l (q - address) 0) same
    ∙ byte_of one address n q (omega (arith, low, above)) (omega (arith, high, below)))

-- the bytes of an entry's block are the same
abbrev IsEntrySame : FlatMemory → FlatMemory → Entry → Type 0
IsEntrySame old new entry =
    bytes_at new.present entry.at (pair_size entry.key entry.value) ≡ bytes_at old.present entry.at (pair_size entry.key entry.value)

entry_word : (old new : FlatMemory) (entry : Entry) → IsEntrySame old new entry → word_at new entry.at ≡ word_at old entry.at
entry_word old new entry same =
    ap (big_number 8) (part_same old.present new.present entry.at (pair_size entry.key entry.value) entry.at 8 same (omega arith)
    (omega arith))

entry_held : (old new : FlatMemory) (entry : Entry) → IsEntrySame old new entry → Holds old entry → Holds new entry
entry_held old new entry same holds =
    let size = pair_size entry.key entry.value in
    let part : (other n : ℕ) → entry.at ≤ other → other + n ≤ entry.at + size
    → bytes_at new.present other n ≡ bytes_at old.present other n =
    λ other n low high. part_same old.present new.present entry.at size other n same low high in
    record {
      key_length = ap (big_number 4) (part (entry.at + 8) 4 (omega arith) (omega arith)) ∙ holds.key_length;
      value_length = ap (big_number 4) (part (entry.at + 12) 4 (omega arith) (omega arith)) ∙ holds.value_length;
      key = part (entry.at + 16) (length entry.key) (omega arith) (omega arith) ∙ holds.key;
      value = part (entry.at + 16 + length entry.key) (length entry.value) (omega arith) (omega arith) ∙ holds.value;
      short_key = holds.short_key;
      short_value = holds.short_value;
    }

-- what follows of each element from two facts on it
pub both_hold : {X : Type 0} (P Q R : X → Type 0) (xs : List X) → ((x : X) → P x → Q x → R x) → AllByRecursion P xs → AllByRecursion Q xs
    → AllByRecursion R xs
both_hold P Q R [] more ps qs = tt
both_hold P Q R (x ∷ xs) more ps qs = (more x ps.0 qs.0, both_hold P Q R xs more ps.1 qs.1)

-- the entries of one chain
pub chain_among : (P : Entry → Type 0) (chains : List (List Entry)) (bucket : ℕ) → AllByRecursion P (flat_map (λ chain. chain) chains)
    → AllByRecursion P (get_or chains bucket [])
chain_among P [] bucket all = tt
chain_among P (chain ∷ chains) zero all = all_left P chain (flat_map (λ c. c) chains) all
chain_among P (chain ∷ chains) (suc bucket) all = chain_among P chains bucket (all_right P chain (flat_map (λ c. c) chains) all)

range_at : (P : ℕ → Type 0) (n first k : ℕ) → first ≤ k → k < first + n → AllByRecursion P (range_with_len first n) → P k
range_at P zero first k low high all = absurd (omega (arith, low, high))
range_at P (suc n) first k low high all = elim (cases_eq first k) [
  | inl here ↦ subst P here all.0
  | inr apart ↦ range_at P n (first + 1) k (omega (arith, low, apart)) (omega (arith, high)) all.1
]

-- a store is read from its own ranges alone
pub store_kept : (old new : FlatMemory) (store : Store) (of : Pairs) → IsStore old store of → new.areas ≡ old.areas
    → AreSameIn old new (owned store) → KeepsPages old new
    → IsStore new store of
store_kept old new store of is areas same keeps =
    let same_range : Range → Type 0 = λ range. bytes_at new.present range.at range.size ≡ bytes_at old.present range.at range.size in
    let behind = all_right same_range header_ranges (bucket_ranges store.table ++ block_ranges store) same in
    let buckets = all_left same_range (bucket_ranges store.table) (block_ranges store) behind in
    let blocks = all_right same_range (bucket_ranges store.table) (block_ranges store) behind in
    let header = all_left same_range header_ranges (bucket_ranges store.table ++ block_ranges store) same in
    let lists = all_left same_range (map (λ class. word_range (list_field class)) classes) table_ranges header.1 in
    let last = all_right same_range (map (λ class. word_range (list_field class)) classes) table_ranges header.1 in
    let entries =
    all_map same_range entry_range (entries_of store.table) (all_left same_range (map entry_range (entries_of store.table)) _ blocks) in
    let free =
    all_map same_range free_range (flat_map (free_of store.heap) classes)
    (all_right same_range (map entry_range (entries_of store.table)) _ blocks) in
    let table = is.table in
    record {
      table = record {
        areas = areas ∙ table.areas;
        array = ap (big_number 8) last.0 ∙ table.array;
        buckets = ap (big_number 8) last.1.0 ∙ table.buckets;
        pairs = ap (big_number 8) last.1.1.0 ∙ table.pairs;
        rest = last.1.1.1.0 ∙ table.rest;
        doubled = table.doubled;
        linked =
            λ bucket inside. Links-kept old new (store.table.array + 8 * bucket) (map (λ entry. entry.at) (chain_of store.table bucket))
            (ap (big_number 8) (range_at (λ b. same_range (word_range (store.table.array + 8 * b))) (length store.table.chains) 0 bucket
            (omega arith) (omega (arith, inside))
            (all_map same_range (λ b. word_range (store.table.array + 8 * b)) (range_with_len 0 (length store.table.chains)) buckets)))
            (map_all (λ at. word_at new at ≡ word_at old at) (λ (entry : Entry). entry.at) (chain_of store.table bucket)
            (all_mono (IsEntrySame old new) (λ entry. word_at new entry.at ≡ word_at old entry.at) (chain_of store.table bucket)
            (entry_word old new)
            (chain_among (IsEntrySame old new) store.table.chains bucket entries)))
            (table.linked bucket inside);
        hashed = table.hashed;
        held = All-from_recursion (Holds new) (entries_of store.table)
            (both_hold (IsEntrySame old new) (Holds old) (Holds new) (entries_of store.table)
            (entry_held old new) entries (recursion_from_All (Holds old) (entries_of store.table) table.held));
      };
      heap = heap_kept old new store.heap is.heap areas (ap (big_number 8) header.0)
          (λ class in_classes. ap (big_number 8) (all_contained (λ c. same_range (word_range (list_field c))) classes class in_classes
          (all_map same_range (λ c. word_range (list_field c)) classes lists)))
          (λ class in_classes. all_mono _ (λ at. word_at new at ≡ word_at old at) (store.heap.free class) (λ at one. ap (big_number 8) one)
          (all_map (λ (b : Block). same_range (free_range b)) (λ at. record { at = at; class = class }) (store.heap.free class)
          (all_among (λ (b : Block). same_range (free_range b)) (free_of store.heap) 17 5 class (class_within class in_classes).0
          (omega (arith, (class_within class in_classes).1)) free)))
          keeps;
      used = is.used;
      pairs = is.pairs;
    }
