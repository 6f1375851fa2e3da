-- What the stores of a pair in a new block leave: the word of its heap, its bytes, and the words that name it.
use Rattle.std.proofs.Common.{◌≡◌, ℕ, zero, suc, ◌+◌, ◌-◌, ◌*◌, ◌^◌, ◌<◌, ◌≤◌, ◌⊎◌, Bool, true, false, List, [], ◌∷◌, ◌++◌, length, map, refl, sym, ◌∙◌, ap, subst, arith, inl, inr, length-append, Contains, unwrap_or}
use Rattle.std.specs.Prelude.{nat_le, if◌then◌else◌}
use Rattle.std.specs.List.{AllByRecursion, find, flat_map, range_with_len}
use Rattle.std.proofs.lemmas.Bool.{cases_Bool, cond-true, cond-false}
use Rattle.std.proofs.lemmas.Bool.Decides.{nat_tests}
use Rattle.std.proofs.lemmas.List.Elements.{recursion_from_All}
use Rattle.std.proofs.lemmas.List.Sorted.{length_permutation}
use Rattle.byteorder.specs.Endian.{big_bytes, big_number}
use Rattle.vm_base.specs.FlatMemory.{FlatMemory, bytes_at}
use Rattle.vm_base.specs.FlatLaws.{AreFullPages}
use Rattle.vm_base.specs.MemoryState.{MemoryState, IsMemory, IsIn}
use Rattle.vm_base.specs.MemoryCalls.{IsReady, after_store}
use Rattle.vm_base.proofs.FlatLaws.{bytes_at-with_bytes, full_from_ready}
use Rattle.vm_base.proofs.FlatPages.{with_bytes-append}
use Rattle.store_meaning.specs.Layout.{classes, class_of, header_at, heap_at, top_field, list_field, number_at, word_at}
use Rattle.store_meaning.specs.HeapLayout.{Block, Heap, blocks_of, free_of, first_or_top, next_at}
use Rattle.store_meaning.specs.HashLayout.{Store, Pairs, Holds, IsStore, pair_size, entry_block, entries_of}
use Rattle.store_meaning.proofs.Lists.{class_within}
use Rattle.store_meaning.proofs.Words.{number-of_bytes}
use Rattle.store_meaning.proofs.HeapSteps.{class_bytes}
use Rattle.page_heap.specs.declared.planned.Plan.{Plan}
use Rattle.page_heap.specs.HeapCalls.{commit_store, plan_by, plan_for}
use Rattle.page_hash.specs.PairStores.{head_bytes, pair_bytes}
use Rattle.page_hash.proofs.NextReach.{all_bytes, fill_bytes}
use Rattle.page_hash.proofs.PutRanges.{ready_part}
use Rattle.page_hash.proofs.StoreParts.{StoresIn, putting, stores_in, full_then, full_part, number_stored}

-- ---- the plan

plan_at : (free : List ℕ) (top class : ℕ) → ((plan_by free top class).addr ≡ first_or_top free top)
    × ((plan_by free top class).class ≡ class)
plan_at [] top class = (refl, refl)
plan_at (at ∷ free) top class = (refl, refl)

-- a plan is for the next block of its class
pub planned_at : (heap : Heap) (class : ℕ) (plan : Plan) → plan ≡ plan_for heap class
    → (plan.addr ≡ next_at heap class) × (plan.class ≡ class)
planned_at heap class plan is =
    let at = plan_at (heap.free class) heap.top class in
    (ap (λ p. p.addr) is ∙ at.0, ap (λ p. p.class) is ∙ at.1)

-- ---- the word of the heap

-- a commit stores one word of the heap's fields
pub record CommitsIn (old new : FlatMemory) : Type 0 where
  pub field : ℕ
  pub above : header_at ≤ field
  pub below : field + 8 ≤ header_at + 144
  pub stores : StoresIn old new field 8

pub commits_in : (state : MemoryState) (plan : Plan) → IsMemory state → Contains classes plan.class → IsReady state header_at 4096
    → CommitsIn state.mem (commit_store state plan).mem
commits_in state plan sound in_classes ready = by plan.fresh
  where
    within : (5 ≤ plan.class) × (plan.class < 22)
    within = class_within plan.class in_classes

    one : (field word : ℕ) → header_at ≤ field → field + 8 ≤ header_at + 144
        → CommitsIn state.mem (after_store state field (big_bytes 8 word)).mem
    one field word low high = record {
      field = field;
      above = low;
      below = high;
      stores = stores_in state.mem field (big_bytes 8 word)
          (full_from_ready state field 8 sound (ready_part state header_at 4096 field 8 low (omega (arith, high)) ready));
    }

    by : (fresh : Bool) → CommitsIn state.mem (if fresh then after_store state top_field (big_bytes 8 (plan.addr + 2 ^ plan.class))
        else after_store state (list_field plan.class) (big_bytes 8 (word_at state.mem plan.addr))).mem
    by true = one top_field (plan.addr + 2 ^ plan.class) (omega arith) (omega arith)
    by false = one (list_field plan.class) (word_at state.mem plan.addr) (omega (arith, within.0)) (omega (arith, within.0, within.1))

-- it changes neither what is ready nor a count
pub commit_ready : (state : MemoryState) (plan : Plan) → ((commit_store state plan).ready ≡ state.ready)
    × ((commit_store state plan).most ≡ state.most)
commit_ready state plan = by plan.fresh
  where
    by : (fresh : Bool)
        → ((if fresh then after_store state top_field (big_bytes 8 (plan.addr + 2 ^ plan.class))
        else after_store state (list_field plan.class) (big_bytes 8 (word_at state.mem plan.addr))).ready ≡ state.ready)
        × ((if fresh then after_store state top_field (big_bytes 8 (plan.addr + 2 ^ plan.class))
        else after_store state (list_field plan.class) (big_bytes 8 (word_at state.mem plan.addr))).most ≡ state.most)
    by true = (refl, refl)
    by false = (refl, refl)

-- ---- a pair's bytes

-- a memory with a word stored
pub word_stored : (memory : FlatMemory) (address word : ℕ) → AreFullPages memory.present address 8 → word < 2 ^ 64
    → word_at (putting memory address (big_bytes 8 word)) address ≡ word
word_stored memory address word full small =
    ap (big_number 8) (bytes_at-with_bytes memory.present address (big_bytes 8 word) full) ∙ number-of_bytes word small

-- the pieces of a pair, one after another
abbrev in_pieces : FlatMemory → ℕ → ℕ → List ℕ → List ℕ → FlatMemory
in_pieces memory at next key value =
    putting (putting (putting (putting (putting memory at (big_bytes 8 next)) (at + 8) (big_bytes 4 (length key)))
    (at + 12) (big_bytes 4 (length value))) (at + 16) key) (at + 16 + length key) value

pieces_join : (memory : FlatMemory) (at : ℕ) (front back : List ℕ) (to : ℕ) → to ≡ at + length front
    → putting memory at (front ++ back) ≡ putting (putting memory at front) to back
pieces_join memory at front back to end =
    ap (λ p. record memory { present = p }) (with_bytes-append memory.present at front back)
    ∙ ap (λ a. putting (putting memory at front) a back) (sym end)

pair_in_pieces : (memory : FlatMemory) (at next : ℕ) (key value : List ℕ)
    → putting memory at (pair_bytes next key value) ≡ in_pieces memory at next key value
unfolding head_bytes
pair_in_pieces memory at next key value =
    let word = big_bytes 8 next in
    let one = big_bytes 4 (length key) in
    let two = big_bytes 4 (length value) in
    let head : List ℕ = word ++ (one ++ two) in
    pieces_join memory at (head ++ key) value (at + 16 + length key) (omega (arith, length-append head key))
    ∙ ap (λ m. putting m (at + 16 + length key) value)
    (pieces_join memory at head key (at + 16) (omega arith)
    ∙ ap (λ m. putting m (at + 16) key)
    (pieces_join memory at word (one ++ two) (at + 8) (omega arith)
    ∙ pieces_join (putting memory at word) (at + 8) one two (at + 12) (omega arith)))

-- what is read of a pair that was stored
pub record HoldsPair (memory : FlatMemory) (at next : ℕ) (key value : List ℕ) : Type 0 where
  pub next_is : word_at memory at ≡ next
  pub holds : Holds memory (record { at = at; key = key; value = value })

pieces_hold : (m1 m2 m3 m4 m5 : FlatMemory) (at next : ℕ) (key value : List ℕ) → word_at m1 at ≡ next → StoresIn m1 m2 (at + 8) 4
    → number_at m2 (at + 8) 4 ≡ length key → StoresIn m2 m3 (at + 12) 4 → number_at m3 (at + 12) 4 ≡ length value
    → StoresIn m3 m4 (at + 16) (length key) → bytes_at m4.present (at + 16) (length key) ≡ key
    → StoresIn m4 m5 (at + 16 + length key) (length value) → bytes_at m5.present (at + 16 + length key) (length value) ≡ value
    → length key ≤ 65536 → length value ≤ 1048576 → HoldsPair m5 at next key value
pieces_hold m1 m2 m3 m4 m5 at next key value word s2 number s3 count s4 key_there s5 value_there short_key short_value =
    let low : (other n : ℕ) → other + n ≤ at + 16 → bytes_at m5.present other n ≡ bytes_at m3.present other n =
    λ other n below. s5.beside other n (inr (omega (arith, below))) ∙ s4.beside other n (inr (omega (arith, below))) in
    record {
      next_is = ap (big_number 8) (low at 8 (omega arith) ∙ s3.beside at 8 (inr (omega arith)) ∙ s2.beside at 8 (inr (omega arith))) ∙ word;
      holds = record {
        key_length = ap (big_number 4) (low (at + 8) 4 (omega arith) ∙ s3.beside (at + 8) 4 (inr (omega arith))) ∙ number;
        value_length = ap (big_number 4) (low (at + 12) 4 (omega arith)) ∙ count;
        key = s5.beside (at + 16) (length key) (inr (omega arith)) ∙ key_there;
        value = value_there;
        short_key = short_key;
        short_value = short_value;
      };
    }

pub holds_pair : (memory : FlatMemory) (at next : ℕ) (key value : List ℕ) → AreFullPages memory.present at (pair_size key value)
    → length key ≤ 65536 → length value ≤ 1048576 → next < 2 ^ 64
    → HoldsPair (putting memory at (pair_bytes next key value)) at next key value
holds_pair memory at next key value full short_key short_value small =
    let size = pair_size key value in
    let m1 = putting memory at (big_bytes 8 next) in
    let m2 = putting m1 (at + 8) (big_bytes 4 (length key)) in
    let m3 = putting m2 (at + 12) (big_bytes 4 (length value)) in
    let m4 = putting m3 (at + 16) key in
    let m5 = putting m4 (at + 16 + length key) value in
    let part : (m : FlatMemory) → AreFullPages m.present at size → (other n : ℕ) → at ≤ other → other + n ≤ at + size
    → AreFullPages m.present other n = λ m all other n low high. full_part m at size other n low high all in
    let wider : (one two : FlatMemory) (other n : ℕ) → AreFullPages one.present at size → StoresIn one two other n
    → AreFullPages two.present at size =
    λ one two other n all stores. full_then one two other n at size stores all in
    let s1 = stores_in memory at (big_bytes 8 next) (part memory full at 8 (omega arith) (omega arith)) in
    let f1 = wider memory m1 at 8 full s1 in
    let g2 = part m1 f1 (at + 8) 4 (omega arith) (omega arith) in
    let s2 = stores_in m1 (at + 8) (big_bytes 4 (length key)) g2 in
    let f2 = wider m1 m2 (at + 8) 4 f1 s2 in
    let g3 = part m2 f2 (at + 12) 4 (omega arith) (omega arith) in
    let s3 = stores_in m2 (at + 12) (big_bytes 4 (length value)) g3 in
    let f3 = wider m2 m3 (at + 12) 4 f2 s3 in
    let g4 = part m3 f3 (at + 16) (length key) (omega arith) (omega arith) in
    let s4 = stores_in m3 (at + 16) key g4 in
    let f4 = wider m3 m4 (at + 16) (length key) f3 s4 in
    let g5 = part m4 f4 (at + 16 + length key) (length value) (omega arith) (omega arith) in
    let s5 = stores_in m4 (at + 16 + length key) value g5 in
    subst (λ m. HoldsPair m at next key value) (sym (pair_in_pieces memory at next key value))
    (pieces_hold m1 m2 m3 m4 m5 at next key value
    (word_stored memory at next (part memory full at 8 (omega arith) (omega arith)) small)
    s2 (number_stored m1 (at + 8) (length key) g2 (omega (arith, short_key)))
    s3 (number_stored m2 (at + 12) (length value) g3 (omega (arith, short_value)))
    s4 (bytes_at-with_bytes m3.present (at + 16) key g4) s5 (bytes_at-with_bytes m4.present (at + 16 + length key) value g5)
    short_key short_value)

-- the pair's size
pub pair_bytes-size : (next : ℕ) (key value : List ℕ) → length (pair_bytes next key value) ≡ pair_size key value
unfolding head_bytes
pair_bytes-size next key value =
    let head = head_bytes next (length key) (length value) in
    let front = length-append head key in
    let whole = length-append (head ++ key) value in
    omega (arith, front, whole)

-- ---- how many entries there may be

blocks_few : (blocks : List Block) → AllByRecursion (λ (block : Block). Contains classes block.class) blocks
    → 32 * length blocks ≤ all_bytes blocks
blocks_few [] classed = omega arith
blocks_few (block ∷ blocks) classed =
    let here = class_bytes block.class classed.0 in
    let rest = blocks_few blocks classed.1 in
    omega (arith, here, rest)

length_mapped : {X Y : Type 0} (f : X → Y) (xs : List X) → length (map f xs) ≡ length xs
length_mapped f [] = refl
length_mapped f (x ∷ xs) = let rest = length_mapped f xs in omega (arith, rest)

-- a store has no more entries than its heap has blocks
pub entries_few : (memory : FlatMemory) (store : Store) (of : Pairs) → IsStore memory store of
    → 32 * length (entries_of store.table) ≤ 538968064
entries_few memory store of is =
    let order = is.heap.order in
    let few = blocks_few order (recursion_from_All (λ (block : Block). Contains classes block.class) order is.heap.classed) in
    let whole = fill_bytes heap_at store.heap.top order is.heap.fill in
    let all = length_permutation order (blocks_of store.heap) is.heap.same in
    let parts = length-append store.heap.used (flat_map (free_of store.heap) classes) in
    let used = length_permutation store.heap.used (map entry_block (entries_of store.table)) is.used in
    let entries = length_mapped entry_block (entries_of store.table) in
    omega (arith, few, whole, all, parts, used, entries, is.heap.within)

-- ---- the half of a block

half_from : (n first size : ℕ) → (first ≡ 5) ⊎ (2 ^ (first - 1) < size) → 5 ≤ first → first + n ≡ 22 → 16 ≤ size → size ≤ 2097152
    → 2 ^ (unwrap_or (find (λ c. nat_le size (2 ^ c)) (range_with_len first n)) 21 - 1) ≤ size
half_from zero first size more low end some few = elim more [
  | inl least ↦ absurd (omega (arith, least, end))
  | inr above ↦
      let last : first ≡ 22 = omega (arith, end) in
      let big : 2 ^ 21 < size = subst (λ c. 2 ^ (c - 1) < size) last above in
      absurd (omega (arith, big, few))
]
half_from (suc n) first size more low end some few = elim (cases_Bool (nat_le size (2 ^ first))) [
  | inl found ↦
      subst (λ o. 2 ^ (unwrap_or o 21 - 1) ≤ size) (sym (cond-true (nat_le size (2 ^ first)) _ _ found))
      (elim more [
        | inl least ↦ subst (λ c. 2 ^ (c - 1) ≤ size) (sym least) (omega (arith, some))
        | inr above ↦ omega (arith, above)
      ])
  | inr missing ↦
      let past : 2 ^ first < size = grind (arith, nat_tests) in
      let next : 2 ^ (first + 1 - 1) < size = subst (λ c. 2 ^ c < size) (omega arith) past in
      subst (λ o. 2 ^ (unwrap_or o 21 - 1) ≤ size) (sym (cond-false (nat_le size (2 ^ first)) _ _ missing))
      (half_from n (first + 1) size (inr next) (omega (arith, low)) (omega (arith, end)) some few)
]

-- a size is at least half of the block of its class
pub class_half : (size : ℕ) → 16 ≤ size → size ≤ 2097152 → 2 ^ (class_of size - 1) ≤ size
class_half size some few = half_from 17 5 size (inl refl) (omega arith) refl some few

-- what may be stored to, where the pages that may be are the same
pub ready_same : (old new : MemoryState) (address n : ℕ) → new.ready ≡ old.ready → IsReady old address n → IsReady new address n
ready_same old new address n same ready page inside = subst (IsIn page) (sym same) (ready page inside)
