-- The entries of a doubled table are those of the table, in another order.
use Rattle.std.proofs.Common.{◌≡◌, ℕ, zero, suc, ◌+◌, ◌*◌, ◌%◌, ◌<◌, ◌⊎◌, Bool, true, false, List, [], ◌∷◌, ◌++◌, length, map, get_or, refl, sym, ◌∙◌, ap, ap₂, subst, arith, inl, inr, IsPermutation}
use Rattle.std.specs.List.{AllByRecursion, flat_map, filter, range_with_len}
use Rattle.std.proofs.Math.Nat.{mod-eq_of_lt, add-mod_left}
use Rattle.std.proofs.lemmas.Bool.{cond-true, cond-false, eq-eqb, ne_eqb}
use Rattle.std.proofs.lemmas.Grind.{flat_map-append}
use Rattle.std.proofs.lemmas.List.{append_assoc}
use Rattle.std.proofs.lemmas.List.Sorted.{IsPermutation-refl, IsPermutation-sym, IsPermutation-trans, IsPermutation-cons, IsPermutation-middle, IsPermutation-append, IsPermutation-append_comm, IsPermutation-append_left, IsPermutation-append_right, IsPermutation-reverse}
use Rattle.vm_base.proofs.Ranges.{range-split}
use Rattle.store_meaning.specs.HashLayout.{Entry, Table, hash_of, chain_of, entries_of}
use Rattle.store_meaning.specs.StoreSteps.{relinked_chain}
use Rattle.store_meaning.proofs.Lists.{all_mono}
use Rattle.page_hash.specs.Relinking.{is_of_bucket, turned_for}
use Rattle.page_hash.proofs.ChainTurns.{either_half}

-- ---- one chain

-- exactly one of the two tests passes
abbrev IsSplit : (Entry → Bool) → (Entry → Bool) → Entry → Type 0
IsSplit p q entry = ((p entry ≡ true) × (q entry ≡ false)) ⊎ ((p entry ≡ false) × (q entry ≡ true))

filters_split : (p q : Entry → Bool) (chain : List Entry) → AllByRecursion (IsSplit p q) chain
    → IsPermutation (filter p chain ++ filter q chain) chain
filters_split p q [] all = IsPermutation-refl []
filters_split p q (entry ∷ chain) all =
    let rest = filters_split p q chain all.1 in
    elim all.0 [
      | inl first ↦
          subst (λ l. IsPermutation l (entry ∷ chain))
          (sym (ap₂ (λ a b. a ++ b) (cond-true (p entry) (entry ∷ filter p chain) (filter p chain) first.0)
          (cond-false (q entry) (entry ∷ filter q chain) (filter q chain) first.1)))
          (IsPermutation-cons entry (filter p chain ++ filter q chain) chain rest)
      | inr second ↦
          subst (λ l. IsPermutation l (entry ∷ chain))
          (sym (ap₂ (λ a b. a ++ b) (cond-false (p entry) (entry ∷ filter p chain) (filter p chain) second.0)
          (cond-true (q entry) (entry ∷ filter q chain) (filter q chain) second.1)))
          (IsPermutation-trans _ _ _ (IsPermutation-middle (filter p chain) entry (filter q chain))
          (IsPermutation-cons entry (filter p chain ++ filter q chain) chain rest))
    ]

-- a chain is that of the lower bucket and that of the upper one
pub chain_split : (n bucket : ℕ) (chain : List Entry) → 0 < n → bucket < n
    → AllByRecursion (λ (entry : Entry). hash_of entry.key % n ≡ bucket) chain
    → IsPermutation (turned_for (2 * n) bucket chain ++ turned_for (2 * n) (n + bucket) chain) chain
chain_split n bucket chain some low hashed =
    let p = is_of_bucket (2 * n) bucket in
    let q = is_of_bucket (2 * n) (n + bucket) in
    let sum : bucket + n ≡ n + bucket = omega arith in
    IsPermutation-trans _ (filter p chain ++ filter q chain) _
    (IsPermutation-append _ _ _ _ (IsPermutation-sym _ _ (IsPermutation-reverse (filter p chain)))
    (IsPermutation-sym _ _ (IsPermutation-reverse (filter q chain))))
    (filters_split p q chain
    (all_mono (λ (entry : Entry). hash_of entry.key % n ≡ bucket) (IsSplit p q) chain
    (λ entry is. elim (either_half (hash_of entry.key) n bucket some is low) [
      | inl below ↦ inl (
        eq-eqb (hash_of entry.key % (2 * n)) bucket below,
        ne_eqb (hash_of entry.key % (2 * n)) (n + bucket) (λ same. omega (arith, same, below, some)),
      )
      | inr above ↦ inr (
        ne_eqb (hash_of entry.key % (2 * n)) bucket (λ same. omega (arith, same, above, some)),
        eq-eqb (hash_of entry.key % (2 * n)) (n + bucket) (above ∙ sum),
      )
    ]) hashed))

-- ---- all chains

flat_mapped : {X : Type 0} (f : ℕ → List X) (ks : List ℕ) → flat_map (λ c. c) (map f ks) ≡ flat_map f ks
flat_mapped f [] = refl
flat_mapped f (k ∷ ks) = ap (λ l. f k ++ l) (flat_mapped f ks)

shifted : {X : Type 0} (f : ℕ → List X) (n a : ℕ) → flat_map f (range_with_len (suc a) n) ≡ flat_map (λ k. f (suc k)) (range_with_len a n)
shifted f zero a = refl
shifted f (suc n) a =
    let next : suc a + 1 ≡ suc (a + 1) = omega arith in
    ap (λ l. f (suc a) ++ l) (ap (λ q. flat_map f (range_with_len q n)) next ∙ shifted f n (a + 1))

chains_by_place : (chains : List (List Entry)) → flat_map (λ k. get_or chains k []) (range_with_len 0 (length chains))
    ≡ flat_map (λ c. c) chains
chains_by_place [] = refl
chains_by_place (chain ∷ chains) =
    ap (λ l. chain ++ l) (shifted (λ k. get_or (chain ∷ chains) k []) (length chains) 0 ∙ chains_by_place chains)

swapped : {X : Type 0} (a f b g : List X) → IsPermutation ((a ++ f) ++ (b ++ g)) ((a ++ b) ++ (f ++ g))
swapped a f b g =
    let middle : IsPermutation (f ++ (b ++ g)) (b ++ (f ++ g)) =
    subst (λ l. IsPermutation l (b ++ (f ++ g))) (append_assoc f b g)
    (subst (IsPermutation ((f ++ b) ++ g)) (append_assoc b f g)
    (IsPermutation-append_left g (f ++ b) (b ++ f) (IsPermutation-append_comm f b))) in
    subst (λ l. IsPermutation l ((a ++ b) ++ (f ++ g))) (sym (append_assoc a f (b ++ g)))
    (subst (IsPermutation (a ++ (f ++ (b ++ g)))) (sym (append_assoc a b (f ++ g)))
    (IsPermutation-append_right a (f ++ (b ++ g)) (b ++ (f ++ g)) middle))

-- lists by two rows of places are those by one
weave : {X : Type 0} (f g h : ℕ → List X) (m a b : ℕ) → ((k : ℕ) → k < m → IsPermutation (f (a + k) ++ g (b + k)) (h (a + k)))
    → IsPermutation (flat_map f (range_with_len a m) ++ flat_map g (range_with_len b m)) (flat_map h (range_with_len a m))
weave f g h zero a b each = IsPermutation-refl []
weave f g h (suc m) a b each =
    let at : a + 0 ≡ a = omega arith in
    let other : b + 0 ≡ b = omega arith in
    let here : IsPermutation (f a ++ g b) (h a) =
    subst (λ k. IsPermutation (f k ++ g b) (h k)) at
    (subst (λ k. IsPermutation (f (a + 0) ++ g k) (h (a + 0))) other (each 0 (omega arith))) in
    let rest = weave f g h m (a + 1) (b + 1) (λ k low.
    let one : a + suc k ≡ a + 1 + k = omega arith in
    let two : b + suc k ≡ b + 1 + k = omega arith in
    subst (λ q. IsPermutation (f q ++ g (b + 1 + k)) (h q)) one
    (subst (λ q. IsPermutation (f (a + suc k) ++ g q) (h (a + suc k))) two (each (suc k) (omega (arith, low))))) in
    IsPermutation-trans _ _ _
    (swapped (f a) (flat_map f (range_with_len (a + 1) m)) (g b) (flat_map g (range_with_len (b + 1) m)))
    (IsPermutation-append _ _ _ _ here rest)

-- the chain of each bucket of the doubled table
pub relinked_low : (table : Table) (bucket : ℕ) → bucket < length table.chains
    → relinked_chain table bucket ≡ turned_for (2 * length table.chains) bucket (chain_of table bucket)
relinked_low table bucket low =
    ap (λ b. turned_for (2 * length table.chains) bucket (chain_of table b)) (mod-eq_of_lt low)

pub relinked_high : (table : Table) (bucket : ℕ) → bucket < length table.chains
    → relinked_chain table (length table.chains + bucket)
    ≡ turned_for (2 * length table.chains) (length table.chains + bucket) (chain_of table bucket)
relinked_high table bucket low =
    ap (λ b. turned_for (2 * length table.chains) (length table.chains + bucket) (chain_of table b))
    (add-mod_left (length table.chains) bucket ∙ mod-eq_of_lt low)

-- so the entries are the same
pub doubled_entries : (table : Table) → 0 < length table.chains
    → ((bucket : ℕ) → bucket < length table.chains
    → AllByRecursion (λ (entry : Entry). hash_of entry.key % length table.chains ≡ bucket) (chain_of table bucket))
    → IsPermutation (flat_map (λ c. c) (map (relinked_chain table) (range_with_len 0 (2 * length table.chains)))) (entries_of table)
doubled_entries table some hashed =
    let n : ℕ = length table.chains in
    let twice : 2 * n ≡ n + n = omega arith in
    let from : 0 + n ≡ n = omega arith in
    let parts : flat_map (λ c. c) (map (relinked_chain table) (range_with_len 0 (2 * n)))
    ≡ flat_map (relinked_chain table) (range_with_len 0 n) ++ flat_map (relinked_chain table) (range_with_len n n) =
    flat_mapped (relinked_chain table) (range_with_len 0 (2 * n))
    ∙ ap (λ m. flat_map (relinked_chain table) (range_with_len 0 m)) twice
    ∙ ap (flat_map (relinked_chain table)) (range-split 0 n n)
    ∙ ap (λ f. flat_map (relinked_chain table) (range_with_len 0 n ++ range_with_len f n)) from
    ∙ flat_map-append (relinked_chain table) (range_with_len 0 n) (range_with_len n n) in
    subst (λ l. IsPermutation l (entries_of table)) (sym parts)
    (subst (IsPermutation (flat_map (relinked_chain table) (range_with_len 0 n) ++ flat_map (relinked_chain table) (range_with_len n n)))
    (chains_by_place table.chains)
    (weave (relinked_chain table) (relinked_chain table) (chain_of table) n 0 n (λ k low.
    let at : 0 + k ≡ k = omega arith in
    subst (λ q. IsPermutation (relinked_chain table q ++ relinked_chain table (n + k)) (chain_of table q)) (sym at)
    (subst (λ l. IsPermutation (l ++ relinked_chain table (n + k)) (chain_of table k)) (sym (relinked_low table k low))
    (subst (λ l. IsPermutation (turned_for (2 * n) k (chain_of table k) ++ l) (chain_of table k)) (sym (relinked_high table k low))
    (chain_split n k (chain_of table k) some low (hashed k low)))))))
