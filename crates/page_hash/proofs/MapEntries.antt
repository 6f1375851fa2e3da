-- What a store's map has for a key is what the chain of the key's bucket has.
use Rattle.std.proofs.Common.{◌≡◌, ℕ, zero, suc, ◌%◌, ◌<◌, ◌≤◌, Bool, true, false, List, [], ◌∷◌, length, map, get_or, Option, Some, None, is_some, refl, sym, ◌∙◌, ap, subst, arith, inl, inr, length-append}
use Rattle.std.specs.Prelude.{T, unwrap_or}
use Rattle.std.specs.Option.{option_map}
use Rattle.std.specs.Str.{bytes_eq}
use Rattle.std.specs.List.{AllByRecursion, flat_map}
use Rattle.std.specs.Ordering.{nat_cmp, eq_by_cmp, is_lt}
use Rattle.std.specs.declared.cmp.Ordering.{Ordering}
use Rattle.std.specs.Cmp.{tied_itself}
use Rattle.std.specs.Cmp.Lexicographic.{slice_cmp, texts_ties, nat_list_cmp_total}
use Rattle.std.specs.FinMap.{find, is_sorted, entries, entries_sorted, get, get-entries}
use Rattle.std.specs.FinMap.Entries.{below_all}
use Rattle.std.proofs.lemmas.Bool.{cases_Bool, cases_eq, cond-true, cond-false, and_parts, false≢true}
use Rattle.std.proofs.lemmas.List.Elements.{recursion_from_All}
use Rattle.std.proofs.lemmas.List.Sorted.{IsPermutation-sym}
use Rattle.std.proofs.lemmas.Slice.Eq.{bytes_eq-Decides}
use Rattle.vm_base.specs.FlatMemory.{FlatMemory}
use Rattle.store_meaning.specs.HashLayout.{Entry, Store, Pairs, IsStore, hash_of, entry_pair, chain_of, entries_of}
use Rattle.store_meaning.specs.StoreSteps.{bucket_of, entry_in, entry_for}
use Rattle.store_meaning.proofs.Lists.{all_mono, all_both, all_left, all_right, all_map, all_permuted}

-- the order of keys
abbrev pub key_cmp : List ℕ → List ℕ → Ordering
key_cmp = slice_cmp nat_cmp

not_true : (b : Bool) → (b ≡ true → ⊥) → b ≡ false
not_true true never = absurd (never refl)
not_true false never = refl

pub true_from : (b : Bool) → T b → b ≡ true
true_from true holds = refl
true_from false holds = absurd holds

-- keys tie where they are the same
pub same_key : (one two : List ℕ) → one ≡ two → eq_by_cmp key_cmp one two ≡ true
same_key one two same = sym (texts_ties one two) ∙ (bytes_eq-Decides one two).1 same

pub other_key : (one two : List ℕ) → (one ≡ two → ⊥) → eq_by_cmp key_cmp one two ≡ false
other_key one two apart =
    sym (texts_ties one two) ∙ not_true (bytes_eq one two) (λ is. apart ((bytes_eq-Decides one two).0 is))

-- a lesser key is another one
lesser : (one two : List ℕ) → is_lt (key_cmp one two) ≡ true → one ≡ two → ⊥
lesser one two less same =
    false≢true (sym (ap is_lt (tied_itself nat_list_cmp_total one)) ∙ ap (λ key. is_lt (key_cmp one key)) same ∙ less)

-- an entry in front hides none behind it
found_behind : (e : List ℕ × List ℕ) (es xs : List (List ℕ × List ℕ)) → below_all key_cmp e.0 xs ≡ true
    → AllByRecursion (λ p. find key_cmp p.0 es ≡ Some p.1) xs → AllByRecursion (λ p. find key_cmp p.0 (e ∷ es) ≡ Some p.1) xs
found_behind e es [] below all = tt
found_behind e es (p ∷ ps) below all =
    let parts = and_parts (is_lt (key_cmp e.0 p.0)) (below_all key_cmp e.0 ps) below in (
      cond-false (eq_by_cmp key_cmp p.0 e.0) (Some e.1) (find key_cmp p.0 es)
          (other_key p.0 e.0 (λ same. lesser e.0 p.0 parts.0 (sym same)))
          ∙ all.0,
      found_behind e es ps parts.1 all.1,
    )

-- among entries in order each one is found by its key
pub found_all : (es : List (List ℕ × List ℕ)) → is_sorted key_cmp es ≡ true → AllByRecursion (λ p. find key_cmp p.0 es ≡ Some p.1) es
found_all [] sorted = tt
found_all (e ∷ es) sorted =
    let parts = and_parts (below_all key_cmp e.0 es) (is_sorted key_cmp es) sorted in (
      cond-true (eq_by_cmp key_cmp e.0 e.0) (Some e.1) (find key_cmp e.0 es) (same_key e.0 e.0 refl),
      found_behind e es es parts.0 (found_all es parts.1),
    )

-- where no entry has the key, none is found
none_found : (key : List ℕ) (es : List (List ℕ × List ℕ)) → AllByRecursion (λ p. p.0 ≡ key → ⊥) es → find key_cmp key es ≡ None
none_found key [] all = refl
none_found key (e ∷ es) all =
    cond-false (eq_by_cmp key_cmp key e.0) (Some e.1) (find key_cmp key es) (other_key key e.0 (λ same. all.0 (sym same)))
    ∙ none_found key es all.1

-- what holds of all entries holds of those of a chain, and the other way round
pub chain_part : (P : Entry → Type 0) (chains : List (List Entry)) (bucket : ℕ) → AllByRecursion P (flat_map (λ chain. chain) chains)
    → AllByRecursion P (get_or chains bucket [])
chain_part P [] bucket all = tt
chain_part P (chain ∷ chains) zero all = all_left P chain (flat_map (λ c. c) chains) all
chain_part P (chain ∷ chains) (suc bucket) all = chain_part P chains bucket (all_right P chain (flat_map (λ c. c) chains) all)

all_chains : (P : Entry → Type 0) (chains : List (List Entry))
    → ((bucket : ℕ) → bucket < length chains → AllByRecursion P (get_or chains bucket []))
    → AllByRecursion P (flat_map (λ chain. chain) chains)
all_chains P [] each = tt
all_chains P (chain ∷ chains) each =
    all_both P chain (flat_map (λ c. c) chains) (each 0 (omega arith))
    (all_chains P chains (λ bucket inside. each (suc bucket) (omega (arith, inside))))

-- a chain has at most as many entries as there are
pub chain_few : (chains : List (List Entry)) (bucket : ℕ) → length (get_or chains bucket []) ≤ length (flat_map (λ chain. chain) chains)
chain_few [] bucket = omega arith
chain_few (chain ∷ chains) zero = omega (arith, length-append chain (flat_map (λ c. c) chains))
chain_few (chain ∷ chains) (suc bucket) =
    omega (arith, length-append chain (flat_map (λ c. c) chains), chain_few chains bucket)

mapped : {X Y : Type 0} (P : Y → Type 0) (f : X → Y) (xs : List X) → AllByRecursion (λ x. P (f x)) xs → AllByRecursion P (map f xs)
mapped P f [] all = tt
mapped P f (x ∷ xs) all = (all.0, mapped P f xs all.1)

-- the entry that is found has the key, and what holds of each of the chain
pub entry_in-some : (P : Entry → Type 0) (key : List ℕ) (chain : List Entry) (entry : Entry) → entry_in chain key ≡ Some entry
    → AllByRecursion P chain → P entry × (entry.key ≡ key)
entry_in-some P key [] entry found all = absurd (false≢true (ap is_some found))
entry_in-some P key (first ∷ chain) entry found all = elim (cases_Bool (bytes_eq first.key key)) [
  | inl here ↦
      let same : first ≡ entry =
      ap (λ o. unwrap_or o first)
      (sym (cond-true (bytes_eq first.key key) (Some first) (entry_in chain key) here) ∙ found) in
      subst (λ (e : Entry). P e × (e.key ≡ key)) same (all.0, (bytes_eq-Decides first.key key).0 here)
  | inr past ↦ entry_in-some P key chain entry
      (sym (cond-false (bytes_eq first.key key) (Some first) (entry_in chain key) past) ∙ found) all.1
]

-- where none is found, no entry of the chain has the key
pub entry_in-none : (key : List ℕ) (chain : List Entry) → entry_in chain key ≡ None → AllByRecursion (λ entry. entry.key ≡ key → ⊥) chain
entry_in-none key [] none = tt
entry_in-none key (first ∷ chain) none = elim (cases_Bool (bytes_eq first.key key)) [
  | inl here ↦ absurd (false≢true
      (ap is_some (sym none ∙ cond-true (bytes_eq first.key key) (Some first) (entry_in chain key) here)))
  | inr past ↦ (
    λ same. false≢true (sym past ∙ (bytes_eq-Decides first.key key).1 same),
    entry_in-none key chain
        (sym (cond-false (bytes_eq first.key key) (Some first) (entry_in chain key) past) ∙ none),
  )
]

-- the chain of the key's bucket has the key exactly where the map has, with its value
pub get_entry : (memory : FlatMemory) (store : Store) (of : Pairs) (key : List ℕ) → IsStore memory store of
    → get of key ≡ option_map (λ (entry : Entry). entry.value) (entry_for store key)
get_entry memory store of key is = get-entries of key ∙ by (entry_for store key) refl
  where
    bucket : ℕ
    bucket = bucket_of store.table key

    by : (found : Option Entry) → entry_for store key ≡ found
        → find key_cmp key (entries of) ≡ option_map (λ (entry : Entry). entry.value) found
    by (Some entry) found =
        let all = found_all (entries of) (true_from (is_sorted key_cmp (entries of)) (entries_sorted of)) in
        let paired = all_permuted (λ p. find key_cmp p.0 (entries of) ≡ Some p.1) (entries of) (map entry_pair (entries_of store.table))
        (IsPermutation-sym _ _ is.pairs) all in
        let each = all_map (λ p. find key_cmp p.0 (entries of) ≡ Some p.1) entry_pair (entries_of store.table) paired in
        let both = entry_in-some (λ (e : Entry). find key_cmp e.key (entries of) ≡ Some e.value) key (chain_of store.table bucket) entry
        found (chain_part (λ (e : Entry). find key_cmp e.key (entries of) ≡ Some e.value) store.table.chains bucket each) in
        subst (λ k. find key_cmp k (entries of) ≡ Some entry.value) both.1 both.0
    by None none = none_found key (entries of)
        (all_permuted (λ p. p.0 ≡ key → ⊥) (map entry_pair (entries_of store.table)) (entries of) is.pairs
        (mapped (λ p. p.0 ≡ key → ⊥) entry_pair (entries_of store.table)
        (all_chains (λ (e : Entry). e.key ≡ key → ⊥) store.table.chains (λ other inside. elim (cases_eq other bucket) [
          | inl here ↦ subst (λ b. AllByRecursion (λ (e : Entry). e.key ≡ key → ⊥) (chain_of store.table b)) (sym here)
              (entry_in-none key (chain_of store.table bucket) none)
          | inr apart ↦ all_mono (λ (e : Entry). hash_of e.key % length store.table.chains ≡ other) (λ (e : Entry). e.key ≡ key → ⊥)
              (chain_of store.table other)
              (λ e hashed same. apart (sym hashed ∙ ap (λ k. hash_of k % length store.table.chains) same))
              (recursion_from_All _ (chain_of store.table other) (is.table.hashed other inside))
        ]))))
