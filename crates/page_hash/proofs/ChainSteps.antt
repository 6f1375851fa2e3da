-- One step along a chain.
use Rattle.std.proofs.Common.{◌≡◌, ℕ, ◌-◌, ◌<◌, ◌≤◌, false, List, [], ◌∷◌, ◌++◌, length, Some, None, is_some, refl, sym, ◌∙◌, ap, arith, inl, inr}
use Rattle.std.specs.Prelude.{unwrap_or}
use Rattle.std.specs.Str.{bytes_eq}
use Rattle.std.specs.List.{AllByRecursion}
use Rattle.std.proofs.lemmas.Bool.{cases_Bool, cond-true, cond-false, false≢true}
use Rattle.std.proofs.lemmas.Slice.Eq.{bytes_eq-Decides}
use Rattle.vm_base.specs.FlatMemory.{FlatMemory}
use Rattle.store_meaning.specs.Layout.{word_at}
use Rattle.store_meaning.specs.HashLayout.{Entry}
use Rattle.store_meaning.specs.StoreSteps.{entry_in}
use Rattle.page_hash.specs.declared.chain.Located.{Located}
use Rattle.page_hash.specs.Walks.{IsBlockOf, IsChainFrom, HasChain, value_seen, first_of, located_at, located_in}

-- a chain that goes on at a block has one, and the count is above 0
pub has_block : (memory : FlatMemory) (at left : ℕ) → HasChain memory at left → (at ≡ 0 → ⊥)
    → (entry : Entry) × (IsBlockOf memory at entry × (0 < left) × HasChain memory (word_at memory at) (left - 1))
has_block memory at left has some = by has.chain has.is has.few
  where
    by : (chain : List Entry) → IsChainFrom memory at chain → length chain ≤ left
        → (entry : Entry) × (IsBlockOf memory at entry × (0 < left) × HasChain memory (word_at memory at) (left - 1))
    by [] is few = absurd (some is)
    by (entry ∷ rest) is few =
        (entry, (is.1, omega (arith, few), record { chain = rest; is = is.2; few = omega (arith, few) }))

-- where a chain ends, none is found
pub located_at-end : (memory : FlatMemory) (link : ℕ) (chain : List Entry) (key : List ℕ) → IsChainFrom memory 0 chain
    → located_in link chain key ≡ None
located_at-end memory link [] key is = refl
located_at-end memory link (entry ∷ rest) key is = absurd (omega (arith, is.0))

-- a chain begins at its first block, or at 0
first_is : (memory : FlatMemory) (at : ℕ) (chain : List Entry) → IsChainFrom memory at chain → first_of chain ≡ at
first_is memory at [] is = sym is
first_is memory at (entry ∷ rest) is = is.1.here

-- the block has the key: it is found
pub located_at-here : (memory : FlatMemory) (link at next length_seen : ℕ) (chain : List Entry) (key : List ℕ) → (at ≡ 0 → ⊥)
    → IsChainFrom memory at chain → next ≡ word_at memory at
    → ((entry : Entry) → IsBlockOf memory at entry → Some length_seen ≡ value_seen entry key)
    → Some (record { link = link; at = at; next = next; length = length_seen }) ≡ located_in link chain key
located_at-here memory link at next size [] key some is read seen = absurd (some is)
located_at-here memory link at next size (entry ∷ rest) key some is read seen = elim (cases_Bool (bytes_eq entry.key key)) [
  | inl here ↦
      let told : size ≡ length entry.value =
      ap (λ o. unwrap_or o size)
      (seen entry is.1 ∙ cond-true (bytes_eq entry.key key) (Some (length entry.value)) None here) in
      ap (λ (s : ℕ). Some (record { link = link; at = at; next = next; length = s })) told
      ∙ ap (λ (n : ℕ). Some (record { link = link; at = at; next = n; length = length entry.value }))
      (read ∙ sym (first_is memory (word_at memory at) rest is.2))
      ∙ ap (λ (a : ℕ). Some (record { link = link; at = a; next = first_of rest; length = length entry.value })) (sym is.1.here)
      ∙ sym (cond-true (bytes_eq entry.key key) (Some (located_at link entry rest))
      (located_in entry.at rest key) here)
  | inr past ↦ absurd (false≢true (sym (ap is_some
      (seen entry is.1 ∙ cond-false (bytes_eq entry.key key) (Some (length entry.value)) None past))))
]

-- it has not: the search goes on behind it
pub located_at-past : (memory : FlatMemory) (link at : ℕ) (chain : List Entry) (key : List ℕ) → (at ≡ 0 → ⊥) → IsChainFrom memory at chain
    → ((entry : Entry) → IsBlockOf memory at entry → None ≡ value_seen entry key)
    → (rest : List Entry) × (IsChainFrom memory (word_at memory at) rest × (located_in link chain key ≡ located_in at rest key))
located_at-past memory link at [] key some is seen = absurd (some is)
located_at-past memory link at (entry ∷ rest) key some is seen = elim (cases_Bool (bytes_eq entry.key key)) [
  | inl here ↦ absurd (false≢true (ap is_some
      (seen entry is.1 ∙ cond-true (bytes_eq entry.key key) (Some (length entry.value)) None here)))
  | inr past ↦ (
    rest,
    (
      is.2,
      cond-false (bytes_eq entry.key key) (Some (located_at link entry rest))
          (located_in entry.at rest key) past
          ∙ ap (λ a. located_in a rest key) is.1.here,
    ),
  )
]

-- the address of the last of these, or of the bucket where there is none
abbrev pub link_behind : ℕ → List Entry → ℕ
link_behind link [] = link
link_behind link (entry ∷ entries) = link_behind entry.at entries

-- what was located, in its place in the chain
pub record IsLocated (link : ℕ) (chain : List Entry) (key : List ℕ) (located : Located) : Type 0 where
  pub front : List Entry
  pub entry : Entry
  pub back : List Entry
  pub parts : chain ≡ front ++ entry ∷ back
  pub others : AllByRecursion (λ (other : Entry). bytes_eq other.key key ≡ false) front
  pub has : entry.key ≡ key
  pub is : located ≡ located_at (link_behind link front) entry back

pub is_located : (link : ℕ) (chain : List Entry) (key : List ℕ) (located : Located) → located_in link chain key ≡ Some located
    → IsLocated link chain key located
is_located link [] key located found = absurd (false≢true (ap is_some found))
is_located link (entry ∷ rest) key located found = elim (cases_Bool (bytes_eq entry.key key)) [
  | inl here ↦ record {
    front = [];
    entry = entry;
    back = rest;
    parts = refl;
    others = tt;
    has = (bytes_eq-Decides entry.key key).0 here;
    is = ap (λ o. unwrap_or o located)
        (sym found ∙ cond-true (bytes_eq entry.key key) (Some (located_at link entry rest))
        (located_in entry.at rest key) here);
  }
  | inr past ↦
      let behind = is_located entry.at rest key located
      (sym (cond-false (bytes_eq entry.key key) (Some (located_at link entry rest))
      (located_in entry.at rest key) past) ∙ found) in
      record {
        front = entry ∷ behind.front;
        entry = behind.entry;
        back = behind.back;
        parts = ap (λ l. entry ∷ l) behind.parts;
        others = (past, behind.others);
        has = behind.has;
        is = behind.is;
      }
]

-- the entry of the key in front of which none has it
pub entry_in-located : (link : ℕ) (chain : List Entry) (key : List ℕ) (located : Located) (is : IsLocated link chain key located)
    → entry_in chain key ≡ Some is.entry
entry_in-located link chain key located is =
    ap (λ c. entry_in c key) is.parts ∙ by is.front is.others
  where
    by : (front : List Entry) → AllByRecursion (λ (other : Entry). bytes_eq other.key key ≡ false) front
        → entry_in (front ++ is.entry ∷ is.back) key ≡ Some is.entry
    by [] others = cond-true (bytes_eq is.entry.key key) (Some is.entry) (entry_in is.back key)
        ((bytes_eq-Decides is.entry.key key).1 is.has)
    by (other ∷ front) others =
        cond-false (bytes_eq other.key key) (Some other) (entry_in (front ++ is.entry ∷ is.back) key) others.0
        ∙ by front others.1

-- where nothing was located, no entry has the key
pub entry_in-lost : (link : ℕ) (chain : List Entry) (key : List ℕ) → located_in link chain key ≡ None → entry_in chain key ≡ None
entry_in-lost link [] key none = refl
entry_in-lost link (entry ∷ rest) key none = elim (cases_Bool (bytes_eq entry.key key)) [
  | inl here ↦ absurd (false≢true (ap is_some
      (sym none ∙ cond-true (bytes_eq entry.key key) (Some (located_at link entry rest))
      (located_in entry.at rest key) here)))
  | inr past ↦
      cond-false (bytes_eq entry.key key) (Some entry) (entry_in rest key) past
      ∙ entry_in-lost entry.at rest key
      (sym (cond-false (bytes_eq entry.key key) (Some (located_at link entry rest))
      (located_in entry.at rest key) past) ∙ none)
]
