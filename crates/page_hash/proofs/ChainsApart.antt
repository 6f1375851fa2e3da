-- Blocks of a table's chains that lie apart from each other.
use Rattle.std.proofs.Common.{◌≡◌, ℕ, zero, suc, ◌+◌, ◌<◌, ◌≤◌, List, [], ◌∷◌, ◌++◌, length, map, get_or, refl, sym, ap, subst, arith, inl, inr}
use Rattle.std.specs.List.{AllByRecursion, flat_map}
use Rattle.std.proofs.lemmas.Bool.{cases_eq}
use Rattle.std.proofs.lemmas.List.{map-append}
use Rattle.vm_base.specs.FlatLaws.{AreApart}
use Rattle.store_meaning.specs.HashLayout.{Entry, Table, pair_size, chain_of, entries_of}
use Rattle.store_meaning.specs.Owned.{Range, entry_range, ArePairwiseApart}
use Rattle.store_meaning.proofs.Lists.{all_mono, all_left, all_right, all_map}
use Rattle.store_meaning.proofs.Apart.{IsApartFrom}
use Rattle.page_hash.specs.ArrayRelinking.{IsBesideChains}
use Rattle.page_hash.proofs.MapEntries.{chain_part}

-- ranges that are apart together are so in two parts, and across
pub pairwise_left : (xs ys : List Range) → ArePairwiseApart (xs ++ ys) → ArePairwiseApart xs
pairwise_left [] ys apart = tt
pairwise_left (x ∷ xs) ys apart = (all_left (IsApartFrom x) xs ys apart.0, pairwise_left xs ys apart.1)

pub pairwise_right : (xs ys : List Range) → ArePairwiseApart (xs ++ ys) → ArePairwiseApart ys
pairwise_right [] ys apart = apart
pairwise_right (x ∷ xs) ys apart = pairwise_right xs ys apart.1

pub pairwise_across : (xs ys : List Range) → ArePairwiseApart (xs ++ ys) → AllByRecursion (λ x. AllByRecursion (IsApartFrom x) ys) xs
pairwise_across [] ys apart = tt
pairwise_across (x ∷ xs) ys apart = (all_right (IsApartFrom x) xs ys apart.0, pairwise_across xs ys apart.1)

-- entries that are apart
abbrev pub ArePairwiseEntries : List Entry → Type 0
ArePairwiseEntries entries = ArePairwiseApart (map entry_range entries)

-- the blocks of two entries do not meet
abbrev pub AreEntriesApart : Entry → Entry → Type 0
AreEntriesApart one other = IsApartFrom (entry_range one) (entry_range other)

split_entries : (xs ys : List Entry) → ArePairwiseEntries (xs ++ ys) → ArePairwiseApart (map entry_range xs ++ map entry_range ys)
split_entries xs ys apart = subst ArePairwiseApart (map-append entry_range xs ys) apart

-- one chain of those that are apart
pub chain_apart : (chains : List (List Entry)) (bucket : ℕ) → ArePairwiseEntries (flat_map (λ chain. chain) chains)
    → ArePairwiseEntries (get_or chains bucket [])
chain_apart [] bucket apart = tt
chain_apart (chain ∷ chains) zero apart =
    pairwise_left (map entry_range chain) (map entry_range (flat_map (λ c. c) chains))
    (split_entries chain (flat_map (λ c. c) chains) apart)
chain_apart (chain ∷ chains) (suc bucket) apart = chain_apart chains bucket
    (pairwise_right (map entry_range chain) (map entry_range (flat_map (λ c. c) chains))
    (split_entries chain (flat_map (λ c. c) chains) apart))

across_entries : (xs ys : List Entry) → ArePairwiseEntries (xs ++ ys) → AllByRecursion (λ x. AllByRecursion (AreEntriesApart x) ys) xs
across_entries xs ys apart =
    all_mono (λ x. AllByRecursion (IsApartFrom (entry_range x)) (map entry_range ys)) (λ x. AllByRecursion (AreEntriesApart x) ys) xs
    (λ x all. all_map (IsApartFrom (entry_range x)) entry_range ys all)
    (all_map (λ r. AllByRecursion (IsApartFrom r) (map entry_range ys)) entry_range xs
    (pairwise_across (map entry_range xs) (map entry_range ys) (split_entries xs ys apart)))

flipped : (one other : Entry) → AreEntriesApart one other → AreEntriesApart other one
flipped one other (inl below) = inr below
flipped one other (inr above) = inl above

-- what holds across two lists holds the other way round
turned_round : (xs ys : List Entry) → AllByRecursion (λ x. AllByRecursion (AreEntriesApart x) ys) xs
    → AllByRecursion (λ y. AllByRecursion (AreEntriesApart y) xs) ys
turned_round xs [] all = tt
turned_round xs (y ∷ ys) all = (
  firsts xs all,
  turned_round xs ys (all_mono (λ x. AllByRecursion (AreEntriesApart x) (y ∷ ys)) (λ x. AllByRecursion (AreEntriesApart x) ys) xs
      (λ x two. two.1) all),
)
  where
    firsts : (zs : List Entry) → AllByRecursion (λ x. AllByRecursion (AreEntriesApart x) (y ∷ ys)) zs
        → AllByRecursion (AreEntriesApart y) zs
    firsts [] each = tt
    firsts (z ∷ zs) each = (flipped z y each.0.0, firsts zs each.1)

-- two chains of them
pub two_chains : (chains : List (List Entry)) (one other : ℕ) → ArePairwiseEntries (flat_map (λ chain. chain) chains) → (one ≡ other → ⊥)
    → AllByRecursion (λ x. AllByRecursion (AreEntriesApart x) (get_or chains other [])) (get_or chains one [])
two_chains [] one other apart two = tt
two_chains (chain ∷ chains) zero zero apart two = absurd (two refl)
two_chains (chain ∷ chains) zero (suc other) apart two =
    all_mono (λ x. AllByRecursion (AreEntriesApart x) (flat_map (λ c. c) chains))
    (λ x. AllByRecursion (AreEntriesApart x) (get_or chains other [])) chain
    (λ x all. chain_part (AreEntriesApart x) chains other all) (across_entries chain (flat_map (λ c. c) chains) apart)
two_chains (chain ∷ chains) (suc one) zero apart two =
    turned_round chain (get_or chains one [])
    (all_mono (λ x. AllByRecursion (AreEntriesApart x) (flat_map (λ c. c) chains))
    (λ x. AllByRecursion (AreEntriesApart x) (get_or chains one [])) chain
    (λ x all. chain_part (AreEntriesApart x) chains one all) (across_entries chain (flat_map (λ c. c) chains) apart))
two_chains (chain ∷ chains) (suc one) (suc other) apart two =
    two_chains chains one other
    (pairwise_right (map entry_range chain) (map entry_range (flat_map (λ c. c) chains))
    (split_entries chain (flat_map (λ c. c) chains) apart))
    (λ same. two (ap suc same))

-- what holds of each element for each number
pub all_forall : {X : Type 0} (P : ℕ → X → Type 0) (xs : List X) → ((k : ℕ) → AllByRecursion (P k) xs)
    → AllByRecursion (λ x. (k : ℕ) → P k x) xs
all_forall P [] each = tt
all_forall P (x ∷ xs) each = ((λ k. (each k).0), all_forall P xs (λ k. (each k).1))

-- the blocks of a chain are beside all chains but that one
abbrev IsBesideOthers : Table → ℕ → ℕ → Entry → Type 0
IsBesideOthers table bucket other entry = (bucket ≡ other → ⊥) → AllByRecursion (AreEntriesApart entry) (chain_of table other)

others_beside : (table : Table) (bucket other : ℕ) → ArePairwiseEntries (entries_of table)
    → AllByRecursion (IsBesideOthers table bucket other) (chain_of table bucket)
others_beside table bucket other apart = elim (cases_eq bucket other) [
  | inl same ↦
      all_mono (λ entry. Unit {0}) (IsBesideOthers table bucket other) (chain_of table bucket) (λ entry u two. absurd (two same))
      (trivial (chain_of table bucket))
  | inr two ↦
      all_mono (λ entry. AllByRecursion (AreEntriesApart entry) (chain_of table other)) (IsBesideOthers table bucket other)
      (chain_of table bucket) (λ entry all again. all) (two_chains table.chains bucket other apart two)
]
  where
    trivial : (xs : List Entry) → AllByRecursion (λ entry. Unit {0}) xs
    trivial [] = tt
    trivial (x ∷ xs) = (tt, trivial xs)

-- a range within the block of an entry
abbrev pub IsWithinEntry : Entry → ℕ → ℕ → Type 0
IsWithinEntry entry other size = (entry.at ≤ other) × (other + size ≤ entry.at + pair_size entry.key entry.value)

within_apart : (entry block : Entry) (other size : ℕ) → IsWithinEntry entry other size → AreEntriesApart entry block
    → AreApart block.at 8 other size
within_apart entry block other size within (inl below) = inr (omega (arith, within.1, below))
within_apart entry block other size within (inr above) = inl (omega (arith, within.0, above))

-- so each range within a block of a chain is beside the chains of other buckets
pub chain_beside : (table : Table) (bucket from to : ℕ) → ArePairwiseEntries (entries_of table) → (from ≤ bucket → bucket < to → ⊥)
    → AllByRecursion (λ entry. (other size : ℕ) → IsWithinEntry entry other size → IsBesideChains table from to other size)
    (chain_of table bucket)
chain_beside table bucket from to apart out =
    all_mono (λ entry. (k : ℕ) → IsBesideOthers table bucket k entry)
    (λ entry. (other size : ℕ) → IsWithinEntry entry other size → IsBesideChains table from to other size) (chain_of table bucket)
    (λ entry beside other size within k low high.
    all_mono (AreEntriesApart entry) (λ block. AreApart block.at 8 other size) (chain_of table k)
    (λ block. within_apart entry block other size within)
    (beside k (λ same. out (subst (λ b. from ≤ b) (sym same) low) (subst (λ b. b < to) (sym same) high))))
    (all_forall (IsBesideOthers table bucket) (chain_of table bucket) (λ k. others_beside table bucket k apart))

-- what stands behind the first word of a block is beside the first word of each
abbrev pub IsBesideFirst : Entry → Entry → Type 0
IsBesideFirst entry block = AreApart block.at 8 (entry.at + 8) (8 + length entry.key + length entry.value)

behind_apart : (entry block : Entry) → AreEntriesApart entry block → IsBesideFirst entry block
behind_apart entry block (inl below) = inr (omega (arith, below))
behind_apart entry block (inr above) = inl (omega (arith, above))

pub all_behind : (entries : List Entry) → ArePairwiseEntries entries
    → AllByRecursion (λ entry. AllByRecursion (IsBesideFirst entry) entries) entries
all_behind [] apart = tt
all_behind (entry ∷ entries) apart =
    let others = all_map (IsApartFrom (entry_range entry)) entry_range entries apart.0 in (
      (inl (omega arith), all_mono (AreEntriesApart entry) (IsBesideFirst entry) entries (behind_apart entry) others),
      with_front entries others (all_behind entries apart.1),
    )
  where
    with_front : (xs : List Entry) → AllByRecursion (AreEntriesApart entry) xs
        → AllByRecursion (λ x. AllByRecursion (IsBesideFirst x) entries) xs
        → AllByRecursion (λ x. AllByRecursion (IsBesideFirst x) (entry ∷ entries)) xs
    with_front [] apart_all all = tt
    with_front (x ∷ xs) apart_all all =
        ((behind_apart x entry (flipped entry x apart_all.0), all.0), with_front xs apart_all.1 all.1)
