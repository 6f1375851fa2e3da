-- What is left beside the bytes that were stored.
use Rattle.std.proofs.Common.{◌≡◌, ℕ, ◌+◌, ◌^◌, ◌<◌, ◌≤◌, List, [], length, eqb, Option, Some, None, IsSome, is_some, refl, sym, ◌∙◌, ap, subst, arith, inl, inr, append-nil}
use Rattle.std.specs.Prelude.{unwrap_or}
use Rattle.std.specs.FinMap.{get}
use Rattle.std.proofs.lemmas.Bool.{cases_eq, cond-true, cond-false, eq-eqb, ne_eqb}
use Rattle.byteorder.specs.Endian.{big_bytes, big_number}
use Rattle.byteorder.specs.Numbers.{big_number-reads_back}
use Rattle.vm_base.specs.FlatMemory.{FlatMemory, bytes_at}
use Rattle.vm_base.specs.FlatStep.{with_bytes}
use Rattle.vm_base.specs.FlatLaws.{AreApart, AreFullPages}
use Rattle.vm_base.specs.MemoryState.{MemoryState, IsMemory}
use Rattle.vm_base.specs.MemoryCalls.{IsReady}
use Rattle.vm_base.proofs.FlatLaws.{bytes_at-with_bytes, bytes_at-with_bytes_apart, is_some-with_bytes, length-with_bytes, full_from_ready}
use Rattle.store_meaning.specs.Layout.{number_at}
use Rattle.store_meaning.proofs.HeapSteps.{KeepsPages}
use Rattle.page_hash.specs.PairStores.{length_stored, value_stored}
use Rattle.page_hash.proofs.PutRanges.{ready_part, range_part}

-- only bytes of this range may be others, and the same pages are present
pub record StoresIn (old new : FlatMemory) (address n : ℕ) : Type 0 where
  pub areas : new.areas ≡ old.areas
  pub beside : (other size : ℕ) → AreApart address n other size → bytes_at new.present other size ≡ bytes_at old.present other size
  pub pages : (page : ℕ) → is_some (get new.present page) ≡ is_some (get old.present page)
  pub full : (page : ℕ) → length (unwrap_or (get new.present page) []) ≡ length (unwrap_or (get old.present page) [])

-- the memory with bytes stored
abbrev pub putting : FlatMemory → ℕ → List ℕ → FlatMemory
putting memory address bytes = record memory { present = with_bytes memory.present address bytes }

there_where_full : (page : Option (List ℕ)) → length (unwrap_or page []) ≡ 4096 → IsSome page
there_where_full None full = absurd (omega (arith, full))
there_where_full (Some bytes) full = refl

pub stores_in : (memory : FlatMemory) (address : ℕ) (bytes : List ℕ) → AreFullPages memory.present address (length bytes)
    → StoresIn memory (putting memory address bytes) address (length bytes)
stores_in memory address bytes full = record {
  areas = refl;
  beside = λ other size apart. bytes_at-with_bytes_apart memory.present address bytes other size apart;
  pages = λ page. is_some-with_bytes memory.present address bytes
      (λ q inside. there_where_full (get memory.present q) (full q inside)) page;
  full = λ page. length-with_bytes memory.present address bytes full page;
}

pub stores_none : (memory : FlatMemory) (address n : ℕ) → StoresIn memory memory address n
stores_none memory address n = record {
  areas = refl;
  beside = λ other size apart. refl;
  pages = λ page. refl;
  full = λ page. refl;
}

-- a range is apart from what a greater one is apart from
pub apart_part : (at size other few place n : ℕ) → AreApart at size place n → at ≤ other → other + few ≤ at + size
    → AreApart other few place n
apart_part at size other few place n (inl low) from to = inl (omega (arith, low, to))
apart_part at size other few place n (inr high) from to = inr (omega (arith, high, from))

pub stores_wider : (old new : FlatMemory) (address n other size : ℕ) → address ≤ other → other + size ≤ address + n
    → StoresIn old new other size → StoresIn old new address n
stores_wider old new address n other size low high stores = record {
  areas = stores.areas;
  beside = λ place few apart. stores.beside place few (apart_part address n other size place few apart low high);
  pages = stores.pages;
  full = stores.full;
}

pub stores_on : (one two three : FlatMemory) (address n : ℕ) → StoresIn one two address n → StoresIn two three address n
    → StoresIn one three address n
stores_on one two three address n first second = record {
  areas = second.areas ∙ first.areas;
  beside = λ other size apart. second.beside other size apart ∙ first.beside other size apart;
  pages = λ page. second.pages page ∙ first.pages page;
  full = λ page. second.full page ∙ first.full page;
}

-- a part of full pages
pub full_part : (memory : FlatMemory) (address size other n : ℕ) → address ≤ other → other + n ≤ address + size
    → AreFullPages memory.present address size → AreFullPages memory.present other n
full_part memory address size other n low high full page inside = full page (range_part address size other n page low high inside)

pub full_then : (old new : FlatMemory) (address n other size : ℕ) → StoresIn old new address n → AreFullPages old.present other size
    → AreFullPages new.present other size
full_then old new address n other size stores full page inside = stores.full page ∙ full page inside

pub keeps_then : (old new : FlatMemory) (address n : ℕ) → StoresIn old new address n → KeepsPages old new
keeps_then old new address n stores page there = stores.pages page ∙ there

-- the number of 4 bytes is the one that they were made of
pub number_stored : (memory : FlatMemory) (address number : ℕ) → AreFullPages memory.present address 4 → number < 2 ^ 32
    → number_at (putting memory address (big_bytes 4 number)) address 4 ≡ number
number_stored memory address number full small =
    ap (big_number 4) (bytes_at-with_bytes memory.present address (big_bytes 4 number) full)
    ∙ sym (ap (big_number 4) (append-nil (big_bytes 4 number))) ∙ big_number-reads_back 4 number [] small

-- ---- another value in a block

-- the length alone
length_in : (state : MemoryState) (at old_length value_length : ℕ) → AreFullPages state.mem.present (at + 12) 4
    → StoresIn state.mem (length_stored state at old_length value_length).mem (at + 12) 4
length_in state at old_length value_length full = elim (cases_eq value_length old_length) [
  | inl same ↦
      subst (λ (s : MemoryState). StoresIn state.mem s.mem (at + 12) 4)
      (sym (cond-true (eqb value_length old_length) state _ (eq-eqb value_length old_length same)))
      (stores_none state.mem (at + 12) 4)
  | inr apart ↦
      subst (λ (s : MemoryState). StoresIn state.mem s.mem (at + 12) 4)
      (sym (cond-false (eqb value_length old_length) state _ (ne_eqb value_length old_length apart)))
      (stores_in state.mem (at + 12) (big_bytes 4 value_length) full)
]

length_read : (state : MemoryState) (at old_length value_length : ℕ) → AreFullPages state.mem.present (at + 12) 4 → value_length < 2 ^ 32
    → number_at state.mem (at + 12) 4 ≡ old_length → number_at (length_stored state at old_length value_length).mem (at + 12) 4
    ≡ value_length
length_read state at old_length value_length full small was = elim (cases_eq value_length old_length) [
  | inl same ↦
      subst (λ (s : MemoryState). number_at s.mem (at + 12) 4 ≡ value_length)
      (sym (cond-true (eqb value_length old_length) state _ (eq-eqb value_length old_length same)))
      (was ∙ sym same)
  | inr apart ↦
      subst (λ (s : MemoryState). number_at s.mem (at + 12) 4 ≡ value_length)
      (sym (cond-false (eqb value_length old_length) state _ (ne_eqb value_length old_length apart)))
      (number_stored state.mem (at + 12) value_length full small)
]

-- the length changes no count
pub length_most : (state : MemoryState) (at old_length value_length : ℕ) → (length_stored state at old_length value_length).most
    ≡ state.most
length_most state at old_length value_length = elim (cases_eq value_length old_length) [
  | inl same ↦ ap (λ (s : MemoryState). s.most) (cond-true (eqb value_length old_length) state _ (eq-eqb value_length old_length same))
  | inr apart ↦ ap (λ (s : MemoryState). s.most) (cond-false (eqb value_length old_length) state _ (ne_eqb value_length old_length apart))
]

-- the value with its length: what is read behind it
pub record HasValue (old new : FlatMemory) (at key_length : ℕ) (bytes : List ℕ) : Type 0 where
  pub stores : StoresIn old new (at + 12) (4 + key_length + length bytes)
  pub front : (other size : ℕ) → other + size ≤ at + 12 → bytes_at new.present other size ≡ bytes_at old.present other size
  pub value_length : number_at new (at + 12) 4 ≡ length bytes
  pub key : bytes_at new.present (at + 16) key_length ≡ bytes_at old.present (at + 16) key_length
  pub value : bytes_at new.present (at + 16 + key_length) (length bytes) ≡ bytes

pub has_value : (state : MemoryState) (at old_length key_length : ℕ) (value : List ℕ) → IsMemory state
    → IsReady state at (16 + key_length + length value) → length value < 2 ^ 32 → number_at state.mem (at + 12) 4 ≡ old_length
    → HasValue state.mem (value_stored state at old_length key_length value).mem at key_length value
has_value state at old_length key_length value sound ready small was =
    let full : (other n : ℕ) → at ≤ other → other + n ≤ at + (16 + key_length + length value) → AreFullPages state.mem.present other n =
    λ other n low high. full_from_ready state other n sound
    (ready_part state at (16 + key_length + length value) other n low high ready) in
    let full_length = full (at + 12) 4 (omega arith) (omega arith) in
    let between : MemoryState = length_stored state at old_length (length value) in
    let new : FlatMemory = (value_stored state at old_length key_length value).mem in
    let one : StoresIn state.mem between.mem (at + 12) 4 = length_in state at old_length (length value) full_length in
    let full_value = full_then state.mem between.mem (at + 12) 4 (at + 16 + key_length) (length value) one
    (full (at + 16 + key_length) (length value) (omega arith) (omega arith)) in
    let two : StoresIn between.mem new (at + 16 + key_length) (length value) =
    stores_in between.mem (at + 16 + key_length) value full_value in
    record {
      stores = stores_on state.mem between.mem new (at + 12) (4 + key_length + length value)
          (stores_wider state.mem between.mem (at + 12) (4 + key_length + length value) (at + 12) 4 (omega arith) (omega arith) one)
          (stores_wider between.mem new (at + 12) (4 + key_length + length value) (at + 16 + key_length) (length value) (omega arith)
          (omega arith) two);
      front = λ other size below. two.beside other size (inr (omega (arith, below))) ∙ one.beside other size (inr (omega (arith, below)));
      value_length = ap (big_number 4) (two.beside (at + 12) 4 (inr (omega arith)))
          ∙ length_read state at old_length (length value) full_length small was;
      key = two.beside (at + 16) key_length (inr (omega arith)) ∙ one.beside (at + 16) key_length (inl (omega arith));
      value = bytes_at-with_bytes between.mem.present (at + 16 + key_length) value full_value;
    }

-- the same pages are present behind it
pub value_pages : (state : MemoryState) (at old_length key_length : ℕ) (value : List ℕ) → IsMemory state
    → IsReady state at (16 + key_length + length value) → (page : ℕ)
    → is_some (get (value_stored state at old_length key_length value).mem.present page) ≡ is_some (get state.mem.present page)
value_pages state at old_length key_length value sound ready page =
    let full : (other n : ℕ) → at ≤ other → other + n ≤ at + (16 + key_length + length value) → AreFullPages state.mem.present other n =
    λ other n low high. full_from_ready state other n sound
    (ready_part state at (16 + key_length + length value) other n low high ready) in
    let between : MemoryState = length_stored state at old_length (length value) in
    let one : StoresIn state.mem between.mem (at + 12) 4 =
    length_in state at old_length (length value) (full (at + 12) 4 (omega arith) (omega arith)) in
    (stores_in between.mem (at + 16 + key_length) value
    (full_then state.mem between.mem (at + 12) 4 (at + 16 + key_length) (length value) one
    (full (at + 16 + key_length) (length value) (omega arith) (omega arith)))).pages page
    ∙ one.pages page
