-- Parts of an array that are linked anew, one behind another.
use Rattle.std.proofs.Common.{◌≡◌, ℕ, ◌+◌, ◌-◌, ◌*◌, ◌<◌, ◌≤◌, ◌⊎◌, List, [], length, refl, sym, ◌∙◌, ap, subst, arith, inl, inr, Contains, append-nil}
use Rattle.std.specs.List.{AllByRecursion}
use Rattle.std.proofs.lemmas.Bool.{cases_lt}
use Rattle.byteorder.specs.Endian.{big_number}
use Rattle.vm_base.specs.FlatMemory.{FlatMemory, bytes_at}
use Rattle.vm_base.specs.FlatLaws.{AreApart}
use Rattle.store_meaning.specs.Layout.{array_a, array_pages, store_area, heap_at, word_at}
use Rattle.store_meaning.specs.HashLayout.{Entry, Table, chain_of, entries_of}
use Rattle.store_meaning.proofs.Lists.{all_mono, map_all}
use Rattle.store_meaning.proofs.HeapSteps.{KeepsPages}
use Rattle.page_hash.specs.declared.arrays.Arrays.{Arrays}
use Rattle.page_hash.specs.Relinking.{IsHeldBlock, AreHeldBlocks, LinksFrom, IsChainOf, is_of_bucket, turned_for, places_of}
use Rattle.page_hash.specs.ArrayRelinking.{AreArrays, IsOldTable, IsBesideChains, RelinksPart}
use Rattle.page_hash.proofs.MapEntries.{chain_part, chain_few}
use Rattle.page_hash.proofs.ChainTurns.{turned_is, turned_all, LinksFrom-kept, held_kept, both_hold}
use Rattle.page_hash.proofs.ChainsApart.{chain_apart, chain_beside, all_behind, IsBesideFirst, IsWithinEntry}

-- where the arrays lie
pub arrays_low : (arrays : Arrays) → AreArrays arrays
    → ((arrays.old + 8 * arrays.buckets ≤ arrays.new) ⊎ (arrays.new + 16 * arrays.buckets ≤ arrays.old))
    × ((array_a ≤ arrays.old) × (array_a ≤ arrays.new)
    × (arrays.old + 8 * arrays.buckets ≤ heap_at) × (arrays.new + 16 * arrays.buckets ≤ heap_at))
arrays_low arrays are = elim are.regions [
  | inl up ↦ (
    inl (omega (arith, up.0, up.1, are.few)),
    (omega (arith, up.0), omega (arith, up.1), omega (arith, up.0, are.few), omega (arith, up.1, are.few)),
  )
  | inr down ↦ (
    inr (omega (arith, down.0, down.1, are.few)),
    (omega (arith, down.0), omega (arith, down.1), omega (arith, down.0, are.few), omega (arith, down.1, are.few)),
  )
]

-- what holds of a chain holds of what is made of it
pub turned_for_all : (P : Entry → Type 0) (count bucket : ℕ) (chain : List Entry) → AllByRecursion P chain
    → AllByRecursion P (turned_for count bucket chain)
turned_for_all P count bucket chain all =
    subst (AllByRecursion P) (turned_is (is_of_bucket count bucket) chain [] ∙ append-nil (turned_for count bucket chain))
    (turned_all P (is_of_bucket count bucket) chain [] tt all)

-- the chain of a bucket may be linked anew
pub bucket_chain_of : (memory : FlatMemory) (arrays : Arrays) (table : Table) (from bucket : ℕ) → IsOldTable memory arrays table from
    → from ≤ bucket → bucket < arrays.buckets
    → IsChainOf memory (word_at memory (arrays.old + 8 * bucket)) arrays.pairs arrays.buckets bucket (chain_of table bucket)
bucket_chain_of memory arrays table from bucket is low high = record {
  linked = is.linked bucket low high;
  blocks = record {
    held = chain_part (IsHeldBlock memory) table.chains bucket is.blocks.held;
    apart = chain_apart table.chains bucket is.blocks.apart;
  };
  few = omega (arith, chain_few table.chains bucket, is.pairs);
  hashed = is.hashed bucket high;
}

-- a range below the heap is beside all chains
pub low_beside : (memory : FlatMemory) (table : Table) (from to other size : ℕ) → AreHeldBlocks memory (entries_of table)
    → other + size ≤ heap_at → IsBesideChains table from to other size
low_beside memory table from to other size are low bucket above below =
    all_mono (IsHeldBlock memory) (λ (entry : Entry). AreApart entry.at 8 other size) (chain_of table bucket)
    (λ entry is. inr (omega (arith, is.above, low))) (chain_part (IsHeldBlock memory) table.chains bucket are.held)

-- what lies beside a part that was linked anew reads as before
abbrev pub KeepsPart : FlatMemory → FlatMemory → Arrays → Table → ℕ → ℕ → Type 0
KeepsPart old new arrays table from to = (other size : ℕ) → IsBesideChains table from to other size
    → AreApart (arrays.new + 8 * from) (8 * (to - from)) other size
    → AreApart (arrays.new + 8 * (arrays.buckets + from)) (8 * (to - from)) other size
    → bytes_at new.present other size ≡ bytes_at old.present other size

-- the first words of a chain's blocks read as before, where chains of other buckets were linked anew
abbrev pub AreWordsSame : FlatMemory → FlatMemory → Entry → Type 0
AreWordsSame old new entry = word_at new entry.at ≡ word_at old entry.at

pub words_same : (old new : FlatMemory) (arrays : Arrays) (table : Table) (bucket from to : ℕ) → AreArrays arrays → from ≤ to
    → to ≤ arrays.buckets → AreHeldBlocks old (entries_of table) → KeepsPart old new arrays table from to
    → (from ≤ bucket → bucket < to → ⊥)
    → AllByRecursion (AreWordsSame old new) (chain_of table bucket)
words_same old new arrays table bucket from to regions rise high are beside_part out =
    let low = arrays_low arrays regions in
    both_hold (IsHeldBlock old) (λ entry. (other size : ℕ) → IsWithinEntry entry other size → IsBesideChains table from to other size)
    (AreWordsSame old new) (chain_of table bucket)
    (λ entry held beside. ap (big_number 8) (beside_part entry.at 8 (beside entry.at 8 (omega arith, omega arith))
    (inl (omega (arith, held.above, low.1.3, rise, high))) (inl (omega (arith, held.above, low.1.3, rise, high)))))
    (chain_part (IsHeldBlock old) table.chains bucket are.held)
    (chain_beside table bucket from to are.apart out)

-- so a chain made of it is linked as before
pub turned_kept : (old new : FlatMemory) (first count into : ℕ) (chain : List Entry) → AllByRecursion (AreWordsSame old new) chain
    → LinksFrom old first (places_of (turned_for count into chain)) → LinksFrom new first (places_of (turned_for count into chain))
turned_kept old new first count into chain same linked =
    LinksFrom-kept old new first (places_of (turned_for count into chain))
    (map_all (λ at. word_at new at ≡ word_at old at) (λ (entry : Entry). entry.at) (turned_for count into chain)
    (turned_for_all (AreWordsSame old new) count into chain same)) linked

-- the blocks behind their first words are as before
pub blocks_part : (old new : FlatMemory) (arrays : Arrays) (table : Table) (from to : ℕ) → AreArrays arrays → from ≤ to
    → to ≤ arrays.buckets
    → AreHeldBlocks old (entries_of table) → KeepsPages old new → KeepsPart old new arrays table from to
    → AreHeldBlocks new (entries_of table)
blocks_part old new arrays table from to regions rise high are keeps beside_part = record {
  held = both_hold (IsHeldBlock old) (λ entry. AllByRecursion (IsBesideFirst entry) (entries_of table)) (IsHeldBlock new)
      (entries_of table)
      (λ entry held behind. held_kept old new entry
      (beside_part (entry.at + 8) (8 + length entry.key + length entry.value)
      (λ bucket above below. chain_part (IsBesideFirst entry) table.chains bucket behind)
      (inl (omega (arith, held.above, (arrays_low arrays regions).1.3, rise, high)))
      (inl (omega (arith, held.above, (arrays_low arrays regions).1.3, rise, high)))) keeps held)
      are.held (all_behind (entries_of table) are.apart);
  apart = are.apart;
}

-- the table from a bucket on, where those in front of it are linked anew
pub old_table_on : (old new : FlatMemory) (arrays : Arrays) (table : Table) (begin from : ℕ) → IsOldTable old arrays table begin
    → begin ≤ from → from ≤ arrays.buckets → new.areas ≡ old.areas → KeepsPages old new → KeepsPart old new arrays table begin from
    → IsOldTable new arrays table from
old_table_on old new arrays table begin from is rise high areas keeps beside_part =
    let low = arrays_low arrays is.regions in
    record {
      regions = is.regions;
      count = is.count;
      area = subst (λ a. Contains a (store_area arrays.old (array_pages arrays.buckets))) (sym areas) is.area;
      linked = λ bucket above below.
          let apart : (m : ℕ) → m ≤ from → (at : ℕ) → arrays.new ≤ at → at + 8 * m ≤ arrays.new + 16 * arrays.buckets
          → AreApart at (8 * m) (arrays.old + 8 * bucket) 8 = λ m few at first last. elim low.0 [
            | inl before ↦ inr (omega (arith, before, below, first))
            | inr behind ↦ inl (omega (arith, behind, last))
          ] in
          let word : word_at new (arrays.old + 8 * bucket) ≡ word_at old (arrays.old + 8 * bucket) =
          ap (big_number 8) (beside_part (arrays.old + 8 * bucket) 8
          (low_beside old table begin from (arrays.old + 8 * bucket) 8 is.blocks (omega (arith, low.1.2, below)))
          (apart (from - begin) (omega arith) (arrays.new + 8 * begin) (omega arith) (omega (arith, rise, high)))
          (apart (from - begin) (omega arith) (arrays.new + 8 * (arrays.buckets + begin)) (omega arith) (omega (arith, rise, high)))) in
          subst (λ w. LinksFrom new w (places_of (chain_of table bucket))) (sym word)
          (LinksFrom-kept old new (word_at old (arrays.old + 8 * bucket)) (places_of (chain_of table bucket))
          (map_all (λ at. word_at new at ≡ word_at old at) (λ (entry : Entry). entry.at) (chain_of table bucket)
          (words_same old new arrays table bucket begin from is.regions rise high is.blocks beside_part
          (λ start end. omega (arith, above, end))))
          (is.linked bucket (omega (arith, rise, above)) below));
      hashed = is.hashed;
      blocks = blocks_part old new arrays table begin from is.regions rise high is.blocks keeps beside_part;
      pairs = is.pairs;
    }

-- one part behind another
pub parts_join : (old mid new : FlatMemory) (arrays : Arrays) (table : Table) (from to : ℕ) → IsOldTable old arrays table 0
    → from ≤ to → to ≤ arrays.buckets → KeepsPages old mid → RelinksPart old mid arrays table 0 from
    → RelinksPart mid new arrays table from to
    → RelinksPart old new arrays table 0 to
parts_join old mid new arrays table from to is rise high keeps one two =
    let low = arrays_low arrays is.regions in
    let are = blocks_part old mid arrays table 0 from is.regions (omega arith) (omega (arith, rise, high)) is.blocks keeps one.beside in
    let new_word : (at : ℕ) → at + 8 ≤ heap_at → AreApart (arrays.new + 8 * from) (8 * (to - from)) at 8
    → AreApart (arrays.new + 8 * (arrays.buckets + from)) (8 * (to - from)) at 8 → word_at new at ≡ word_at mid at =
    λ at below first second. ap (big_number 8) (two.beside at 8 (low_beside mid table from to at 8 are below) first second) in
    record {
      beside = λ other size clear first second.
          two.beside other size (λ bucket above below. clear bucket (omega arith) below)
          (part_apart arrays.new from to other size rise first)
          (subst (λ a. AreApart a (8 * (to - from)) other size) (place arrays.new arrays.buckets from)
          (part_apart (arrays.new + 8 * arrays.buckets) from to other size rise
          (subst (λ a. AreApart a (8 * (to - 0)) other size) (place_0 arrays.new arrays.buckets) second)))
          ∙ one.beside other size (λ bucket above below. clear bucket above (omega (arith, below, rise)))
          (front_apart arrays.new from to other size rise first)
          (subst (λ a. AreApart a (8 * (from - 0)) other size) (place_1 arrays.new arrays.buckets)
          (front_apart (arrays.new + 8 * arrays.buckets) from to other size rise
          (subst (λ a. AreApart a (8 * (to - 0)) other size) (place_0 arrays.new arrays.buckets) second)));
      lower = λ bucket above below. elim (cases_lt bucket from) [
        | inl before ↦
            subst (λ w. LinksFrom new w (places_of (turned_for (2 * arrays.buckets) bucket (chain_of table bucket))))
            (sym (new_word (arrays.new + 8 * bucket) (omega (arith, low.1.3, below, high)) (inr (omega (arith, before)))
            (inr (omega (arith, before)))))
            (turned_kept mid new (word_at mid (arrays.new + 8 * bucket)) (2 * arrays.buckets) bucket (chain_of table bucket)
            (words_same mid new arrays table bucket from to is.regions rise high are two.beside (λ start end. omega (arith, start, before)))
            (one.lower bucket above before))
        | inr behind ↦ two.lower bucket behind below
      ];
      upper = λ bucket above below. elim (cases_lt bucket from) [
        | inl before ↦
            subst (λ w. LinksFrom new w (places_of (turned_for (2 * arrays.buckets) (bucket + arrays.buckets) (chain_of table bucket))))
            (sym (new_word (arrays.new + 8 * (arrays.buckets + bucket)) (omega (arith, low.1.3, below, high))
            (inl (omega (arith, rise, high))) (inr (omega (arith, before)))))
            (turned_kept mid new (word_at mid (arrays.new + 8 * (arrays.buckets + bucket))) (2 * arrays.buckets) (bucket + arrays.buckets)
            (chain_of table bucket)
            (words_same mid new arrays table bucket from to is.regions rise high are two.beside (λ start end. omega (arith, start, before)))
            (one.upper bucket above before))
        | inr behind ↦ two.upper bucket behind below
      ];
    }
  where
    part_apart : (at start end other size : ℕ) → start ≤ end → AreApart (at + 8 * 0) (8 * (end - 0)) other size
        → AreApart (at + 8 * start) (8 * (end - start)) other size
    part_apart at start end other size up (inl below) = inl (omega (arith, up, below))
    part_apart at start end other size up (inr above) = inr (omega (arith, up, above))

    front_apart : (at start end other size : ℕ) → start ≤ end → AreApart (at + 8 * 0) (8 * (end - 0)) other size
        → AreApart (at + 8 * 0) (8 * (start - 0)) other size
    front_apart at start end other size up (inl below) = inl (omega (arith, up, below))
    front_apart at start end other size up (inr above) = inr (omega (arith, up, above))

    place : (at n start : ℕ) → at + 8 * n + 8 * start ≡ at + 8 * (n + start)
    place at n start = omega arith

    place_0 : (at n : ℕ) → at + 8 * (n + 0) ≡ at + 8 * n + 8 * 0
    place_0 at n = omega arith

    place_1 : (at n : ℕ) → at + 8 * n + 8 * 0 ≡ at + 8 * (n + 0)
    place_1 at n = omega arith

-- before the first bucket
pub part_begin : (memory : FlatMemory) (arrays : Arrays) (table : Table) → RelinksPart memory memory arrays table 0 0
part_begin memory arrays table = record {
  beside = λ other size clear first second. refl;
  lower = λ bucket above below. absurd (omega (arith, below));
  upper = λ bucket above below. absurd (omega (arith, below));
}
