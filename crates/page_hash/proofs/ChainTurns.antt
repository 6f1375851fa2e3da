-- A chain that is linked anew as two, block by block.
use Rattle.std.proofs.Common.{◌≡◌, ℕ, suc, ◌+◌, ◌-◌, ◌*◌, ◌/◌, ◌%◌, ◌^◌, ◌<◌, ◌≤◌, ◌⊎◌, Bool, true, false, List, [], ◌∷◌, ◌++◌, length, map, reverse, refl, sym, ◌∙◌, ap, subst, arith, inl, inr, append-nil}
use Rattle.std.specs.Prelude.{if◌then◌else◌, slice_index, slice_set}
use Rattle.std.specs.List.{AllByRecursion, filter}
use Rattle.std.proofs.Math.Nat.{div-add-mod, mod-lt, mul_comm, mul_assoc}
use Rattle.std.proofs.lemmas.Nat.{mod-mul-add}
use Rattle.std.proofs.lemmas.Bool.{cases_Bool, cond-true, cond-false, eq-eqb, ne_eqb}
use Rattle.std.proofs.lemmas.List.{append_assoc, map-append, reverse-append}
use Rattle.byteorder.specs.Endian.{big_bytes, big_number}
use Rattle.vm_base.specs.FlatMemory.{FlatMemory, IsFlat, bytes_at}
use Rattle.vm_base.specs.FlatLaws.{AreApart, AreFullPages}
use Rattle.vm_base.proofs.FlatLaws.{bytes_at-with_bytes_apart}
use Rattle.store_meaning.specs.Layout.{word_at}
use Rattle.store_meaning.specs.HashLayout.{Entry, hash_of, pair_size}
use Rattle.store_meaning.specs.Owned.{entry_range, ArePairwiseApart}
use Rattle.store_meaning.proofs.Lists.{all_mono, all_left, all_right, all_both, all_map, map_all}
use Rattle.store_meaning.proofs.Words.{word_at-stored, word_at-apart}
use Rattle.store_meaning.proofs.HeapSteps.{KeepsPages, storing_keeps}
use Rattle.store_meaning.proofs.StoreKept.{part_same}
use Rattle.store_meaning.proofs.Apart.{IsApartFrom, apart_from_others}
use Rattle.page_hash.proofs.BlockLinks.{full_present}
use Rattle.page_hash.specs.Relinking.{with_word, IsHeldBlock, AreHeldBlocks, LinksFrom, IsChainOf, KeepsBeside, Splits, is_of_bucket, turned_for, places_of}

-- ---- the two buckets

-- a hash of a bucket belongs into one of two among twice as many
pub either_half : (hash n bucket : ℕ) → 0 < n → hash % n ≡ bucket → bucket < n
    → (hash % (2 * n) ≡ bucket) ⊎ (hash % (2 * n) ≡ bucket + n)
either_half hash n bucket some is low =
    let half : ℕ = hash / n / 2 in
    let whole : n * (hash / n) + hash % n ≡ hash = div-add-mod hash n in
    elim (by (hash / n)) [
      | inl even ↦
          let product : n * (hash / n) ≡ half * (2 * n) =
          ap (λ q. n * q) even ∙ mul_comm n (2 * half) ∙ ap (λ q. q * n) (mul_comm 2 half) ∙ mul_assoc half 2 n in
          let at : hash ≡ half * (2 * n) + bucket = omega (arith, whole, product, is) in
          inl (ap (λ h. h % (2 * n)) at ∙ mod-mul-add half (2 * n) bucket (omega (arith, low)))
      | inr odd ↦
          let product : n * (hash / n) ≡ half * (2 * n) + n =
          ap (λ q. n * q) odd ∙ mul_comm n (2 * half + 1) ∙ spread half in
          let at : hash ≡ half * (2 * n) + (bucket + n) = omega (arith, whole, product, is) in
          inr (ap (λ h. h % (2 * n)) at ∙ mod-mul-add half (2 * n) (bucket + n) (omega (arith, low)))
    ]
  where
    by : (q : ℕ) → (q ≡ 2 * (q / 2)) ⊎ (q ≡ 2 * (q / 2) + 1)
    by q = grind arith

    spread : (half : ℕ) → (2 * half + 1) * n ≡ half * (2 * n) + n
    spread half = grind arith

-- ---- blocks that pass a test, the last one in front

-- each that passes is put in front of the others as it comes
abbrev pub turned : (Entry → Bool) → List Entry → List Entry → List Entry
turned test done [] = done
turned test done (entry ∷ entries) = turned test (if test entry then entry ∷ done else done) entries

pub turned_is : (test : Entry → Bool) (entries done : List Entry) → turned test done entries ≡ reverse (filter test entries) ++ done
turned_is test [] done = refl
turned_is test (entry ∷ entries) done = elim (cases_Bool (test entry)) [
  | inl passes ↦
      ap (λ l. turned test l entries) (cond-true (test entry) (entry ∷ done) done passes)
      ∙ turned_is test entries (entry ∷ done)
      ∙ sym (append_assoc (reverse (filter test entries)) (entry ∷ []) done)
      ∙ ap (λ l. l ++ done) (sym (reverse-append (entry ∷ []) (filter test entries)))
      ∙ ap (λ l. reverse l ++ done) (sym (cond-true (test entry) (entry ∷ filter test entries) (filter test entries) passes))
  | inr fails ↦
      ap (λ l. turned test l entries) (cond-false (test entry) (entry ∷ done) done fails)
      ∙ turned_is test entries done
      ∙ ap (λ l. reverse l ++ done) (sym (cond-false (test entry) (entry ∷ filter test entries) (filter test entries) fails))
]

turned_more : (test : Entry → Bool) (entries done : List Entry) (entry : Entry)
    → turned test done (entries ++ entry ∷ []) ≡ (if test entry then entry ∷ turned test done entries else turned test done entries)
turned_more test [] done entry = refl
turned_more test (first ∷ entries) done entry = turned_more test entries (if test first then first ∷ done else done) entry

pub turned_all : (P : Entry → Type 0) (test : Entry → Bool) (entries done : List Entry) → AllByRecursion P done → AllByRecursion P entries
    → AllByRecursion P (turned test done entries)
turned_all P test [] done before all = before
turned_all P test (entry ∷ entries) done before all = turned_all P test entries (if test entry then entry ∷ done else done)
    (elim (test entry) as (λ b. AllByRecursion P (if b then entry ∷ done else done)) [ true ↦ (all.0, before) | false ↦ before ]) all.1

-- ---- chains from an address

pub LinksFrom-kept : (old new : FlatMemory) (first : ℕ) (blocks : List ℕ) → AllByRecursion (λ at. word_at new at ≡ word_at old at) blocks
    → LinksFrom old first blocks → LinksFrom new first blocks
LinksFrom-kept old new first [] same linked = linked
LinksFrom-kept old new first (at ∷ blocks) same linked = (
  linked.0,
  linked.1,
  subst (λ w. LinksFrom new w blocks) (sym same.0) (LinksFrom-kept old new (word_at old at) blocks same.1 linked.2),
)

pub first_low : (memory : FlatMemory) (first limit : ℕ) (blocks : List ℕ) → 0 < limit → LinksFrom memory first blocks
    → AllByRecursion (λ at. at < limit) blocks → first < limit
first_low memory first limit [] some linked low = omega (arith, linked, some)
first_low memory first limit (at ∷ blocks) some linked low = omega (arith, linked.0, low.0)

-- ---- the first word of one block is stored

-- a block whose bytes behind its first word are the same is held as before
pub held_kept : (old new : FlatMemory) (entry : Entry)
    → bytes_at new.present (entry.at + 8) (8 + length entry.key + length entry.value)
    ≡ bytes_at old.present (entry.at + 8) (8 + length entry.key + length entry.value)
    → KeepsPages old new → IsHeldBlock old entry → IsHeldBlock new entry
held_kept old new entry same keeps is =
    let size : ℕ = 8 + length entry.key + length entry.value in
    let part : (other n : ℕ) → entry.at + 8 ≤ other → other + n ≤ entry.at + 8 + size
    → bytes_at new.present other n ≡ bytes_at old.present other n =
    λ other n low high. part_same old.present new.present (entry.at + 8) size other n same low high in
    record {
      holds = record {
        key_length = ap (big_number 4) (part (entry.at + 8) 4 (omega arith) (omega arith)) ∙ is.holds.key_length;
        value_length = ap (big_number 4) (part (entry.at + 12) 4 (omega arith) (omega arith)) ∙ is.holds.value_length;
        key = part (entry.at + 16) (length entry.key) (omega arith) (omega arith) ∙ is.holds.key;
        value = part (entry.at + 16 + length entry.key) (length entry.value) (omega arith) (omega arith) ∙ is.holds.value;
        short_key = is.holds.short_key;
        short_value = is.holds.short_value;
      };
      above = is.above;
      below = is.below;
      present = λ page low high. keeps page (is.present page low high);
    }

-- no byte of the block meets the first word of another one
abbrev IsClear : ℕ → Entry → Type 0
IsClear at entry = AreApart at 8 entry.at (pair_size entry.key entry.value)

clear_from : (entry other : Entry) → IsApartFrom (entry_range entry) (entry_range other) → IsClear entry.at other
clear_from entry other (inl below) = inl (omega (arith, below))
clear_from entry other (inr above) = inr above

-- the others of a chain are clear of one
others_clear : (gone rest : List Entry) (entry : Entry) → ArePairwiseApart (map entry_range (gone ++ entry ∷ rest))
    → AllByRecursion (IsClear entry.at) (gone ++ rest)
others_clear gone rest entry apart =
    all_mono (λ other. IsApartFrom (entry_range entry) (entry_range other)) (IsClear entry.at) (gone ++ rest) (clear_from entry)
    (all_map (IsApartFrom (entry_range entry)) entry_range (gone ++ rest)
    (subst (AllByRecursion (IsApartFrom (entry_range entry))) (sym (map-append entry_range gone rest))
    (apart_from_others (map entry_range gone) (entry_range entry) (map entry_range rest)
    (subst ArePairwiseApart (map-append entry_range gone (entry ∷ rest)) apart))))

clear_word : (memory : FlatMemory) (at word : ℕ) (entry : Entry) → IsClear at entry
    → word_at (with_word memory at word) entry.at ≡ word_at memory entry.at
clear_word memory at word entry (inl below) = word_at-apart memory at word entry.at (inl below)
clear_word memory at word entry (inr above) = word_at-apart memory at word entry.at (inr (omega (arith, above)))

clear_held : (memory : FlatMemory) (at word : ℕ) (entry : Entry) → AreFullPages memory.present at 8 → IsClear at entry
    → IsHeldBlock memory entry → IsHeldBlock (with_word memory at word) entry
clear_held memory at word entry full clear is =
    held_kept memory (with_word memory at word) entry
    (bytes_at-with_bytes_apart memory.present at (big_bytes 8 word) (entry.at + 8) (8 + length entry.key + length entry.value)
    (by clear)) (storing_keeps memory at word full) is
  where
    by : IsClear at entry → AreApart at 8 (entry.at + 8) (8 + length entry.key + length entry.value)
    by (inl below) = inl (omega (arith, below))
    by (inr above) = inr (omega (arith, above))

own_held : (memory : FlatMemory) (word : ℕ) (entry : Entry) → AreFullPages memory.present entry.at 8
    → IsHeldBlock memory entry → IsHeldBlock (with_word memory entry.at word) entry
own_held memory word entry full is =
    held_kept memory (with_word memory entry.at word) entry
    (bytes_at-with_bytes_apart memory.present entry.at (big_bytes 8 word) (entry.at + 8) (8 + length entry.key + length entry.value)
    (inl (omega arith))) (storing_keeps memory entry.at word full) is

pub both_hold : {X : Type 0} (P Q R : X → Type 0) (xs : List X) → ((x : X) → P x → Q x → R x) → AllByRecursion P xs → AllByRecursion Q xs
    → AllByRecursion R xs
both_hold P Q R [] more ps qs = tt
both_hold P Q R (x ∷ xs) more ps qs = (more x ps.0 qs.0, both_hold P Q R xs more ps.1 qs.1)

-- all blocks are held as before where one of them got another first word
pub blocks_kept : (memory : FlatMemory) (gone rest : List Entry) (entry : Entry) (word : ℕ)
    → AreFullPages memory.present entry.at 8 → AreHeldBlocks memory (gone ++ entry ∷ rest)
    → AreHeldBlocks (with_word memory entry.at word) (gone ++ entry ∷ rest)
blocks_kept memory gone rest entry word full are =
    let held : Entry → Type 0 = IsHeldBlock memory in
    let now : Entry → Type 0 = IsHeldBlock (with_word memory entry.at word) in
    let clear = others_clear gone rest entry are.apart in
    let behind = all_right held gone (entry ∷ rest) are.held in
    record {
      held = all_both now gone (entry ∷ rest)
          (both_hold (IsClear entry.at) held now gone (λ other c is. clear_held memory entry.at word other full c is)
          (all_left (IsClear entry.at) gone rest clear) (all_left held gone (entry ∷ rest) are.held)) (
            own_held memory word entry full behind.0,
            both_hold (IsClear entry.at) held now rest (λ other c is. clear_held memory entry.at word other full c is)
                (all_right (IsClear entry.at) gone rest clear) behind.1,
          );
      apart = are.apart;
    }

-- ---- half way along a chain

-- the blocks in front of the address are linked anew, and those from it on as before
pub record Halfway (old new : FlatMemory) (at left : ℕ) (heads : List ℕ) (buckets bucket : ℕ) (chain : List Entry) : Type 0 where
  pub gone : List Entry
  pub rest : List Entry
  pub whole : chain ≡ gone ++ rest
  pub blocks : AreHeldBlocks new (gone ++ rest)
  pub beside : KeepsBeside old new chain
  pub linked : LinksFrom new at (places_of rest)
  pub few : length rest ≤ left
  pub hashed : AllByRecursion (λ entry. hash_of entry.key % buckets ≡ bucket) rest
  pub low : ℕ
  pub high : ℕ
  pub pair : heads ≡ low ∷ high ∷ []
  pub lower : LinksFrom new low (places_of (turned (is_of_bucket (2 * buckets) bucket) [] gone))
  pub upper : LinksFrom new high (places_of (turned (is_of_bucket (2 * buckets) (bucket + buckets)) [] gone))

pub halfway_begin : (memory : FlatMemory) (first most buckets bucket : ℕ) (chain : List Entry)
    → IsChainOf memory first most buckets bucket chain → Halfway memory memory first most (0 ∷ 0 ∷ []) buckets bucket chain
halfway_begin memory first most buckets bucket chain is = record {
  gone = [];
  rest = chain;
  whole = refl;
  blocks = is.blocks;
  beside = λ other size apart. refl;
  linked = is.linked;
  few = is.few;
  hashed = is.hashed;
  low = 0;
  high = 0;
  pair = refl;
  lower = refl;
  upper = refl;
}

-- where the walk goes on there is a block, and the count is above 0
pub halfway_block : (old new : FlatMemory) (at left : ℕ) (heads : List ℕ) (buckets bucket : ℕ) (chain : List Entry)
    → Halfway old new at left heads buckets bucket chain → (at ≡ 0 → ⊥)
    → (entry : Entry) × ((entry.at ≡ at) × IsHeldBlock new entry × (0 < left))
halfway_block old new at left heads buckets bucket chain is some = by is.rest is.linked is.few is.blocks
  where
    by : (rest : List Entry) → LinksFrom new at (places_of rest) → length rest ≤ left → AreHeldBlocks new (is.gone ++ rest)
        → (entry : Entry) × ((entry.at ≡ at) × IsHeldBlock new entry × (0 < left))
    by [] linked few blocks = absurd (some linked)
    by (entry ∷ rest) linked few blocks = (
      entry,
      (sym linked.0, (all_right (IsHeldBlock new) is.gone (entry ∷ rest) blocks.held).0, omega (arith, few)),
    )

-- at its end the chain is two
pub halfway_end : (old new : FlatMemory) (left : ℕ) (heads : List ℕ) (buckets bucket : ℕ) (chain : List Entry)
    → Halfway old new 0 left heads buckets bucket chain → Splits old new heads buckets bucket chain
halfway_end old new left heads buckets bucket chain is =
    let all : is.gone ≡ chain = sym (is.whole ∙ ap (λ l. is.gone ++ l) (none is.rest is.linked) ∙ append-nil is.gone) in
    let turned_all_is : (test : Entry → Bool) → turned test [] is.gone ≡ reverse (filter test chain) =
    λ test. ap (turned test []) all ∙ turned_is test chain [] ∙ append-nil (reverse (filter test chain)) in
    record {
      beside = is.beside;
      lower = subst (λ h. LinksFrom new (slice_index h 0) (places_of (turned_for (2 * buckets) bucket chain))) (sym is.pair)
          (subst (λ l. LinksFrom new is.low (places_of l)) (turned_all_is (is_of_bucket (2 * buckets) bucket)) is.lower);
      upper = subst (λ h. LinksFrom new (slice_index h 1) (places_of (turned_for (2 * buckets) (bucket + buckets) chain))) (sym is.pair)
          (subst (λ l. LinksFrom new is.high (places_of l)) (turned_all_is (is_of_bucket (2 * buckets) (bucket + buckets))) is.upper);
    }
  where
    none : (rest : List Entry) → LinksFrom new 0 (places_of rest) → rest ≡ []
    none [] linked = refl
    none (entry ∷ rest) linked = absurd (omega (arith, linked.0, linked.1))

-- ---- one block more

same_words : (memory : FlatMemory) (gone rest : List Entry) (entry : Entry) (word : ℕ) → AreHeldBlocks memory (gone ++ entry ∷ rest)
    → AllByRecursion (λ other. word_at (with_word memory entry.at word) other.at ≡ word_at memory other.at) (gone ++ rest)
same_words memory gone rest entry word are =
    all_mono (IsClear entry.at) (λ other. word_at (with_word memory entry.at word) other.at ≡ word_at memory other.at) (gone ++ rest)
    (clear_word memory entry.at word) (others_clear gone rest entry are.apart)

same_turned : (memory : FlatMemory) (gone rest : List Entry) (entry : Entry) (word : ℕ) (test : Entry → Bool)
    → AreHeldBlocks memory (gone ++ entry ∷ rest)
    → AllByRecursion (λ at. word_at (with_word memory entry.at word) at ≡ word_at memory at) (places_of (turned test [] gone))
same_turned memory gone rest entry word test are =
    map_all (λ at. word_at (with_word memory entry.at word) at ≡ word_at memory at) (λ (other : Entry). other.at) (turned test [] gone)
    (turned_all (λ other. word_at (with_word memory entry.at word) other.at ≡ word_at memory other.at) test gone [] tt
    (all_left (λ other. word_at (with_word memory entry.at word) other.at ≡ word_at memory other.at) gone rest
    (same_words memory gone rest entry word are)))

head_low : (memory : FlatMemory) (gone rest : List Entry) (entry : Entry) (first : ℕ) (test : Entry → Bool)
    → AreHeldBlocks memory (gone ++ entry ∷ rest) → LinksFrom memory first (places_of (turned test [] gone)) → first < 2 ^ 64
head_low memory gone rest entry first test are linked =
    first_low memory first (2 ^ 64) (places_of (turned test [] gone)) (omega arith) linked
    (map_all (λ at. at < 2 ^ 64) (λ (other : Entry). other.at) (turned test [] gone)
    (turned_all (λ (other : Entry). other.at < 2 ^ 64) test gone [] tt
    (all_mono (IsHeldBlock memory) (λ (other : Entry). other.at < 2 ^ 64) gone (λ other is. omega (arith, is.below))
    (all_left (IsHeldBlock memory) gone (entry ∷ rest) are.held))))

-- the chain that the block belongs to begins with it
front_link : (memory : FlatMemory) (gone rest : List Entry) (entry : Entry) (word : ℕ) (test : Entry → Bool)
    → AreFullPages memory.present entry.at 8 → AreHeldBlocks memory (gone ++ entry ∷ rest)
    → LinksFrom memory word (places_of (turned test [] gone)) → test entry ≡ true
    → LinksFrom (with_word memory entry.at word) entry.at (places_of (turned test [] (gone ++ entry ∷ [])))
front_link memory gone rest entry word test full are linked passes =
    let more : turned test [] (gone ++ entry ∷ []) ≡ entry ∷ turned test [] gone =
    turned_more test gone [] entry ∙ cond-true (test entry) _ _ passes in
    subst (λ l. LinksFrom (with_word memory entry.at word) entry.at (places_of l)) (sym more) (
      refl,
      omega (arith, (all_right (IsHeldBlock memory) gone (entry ∷ rest) are.held).0.above),
      subst (λ w. LinksFrom (with_word memory entry.at word) w (places_of (turned test [] gone)))
          (sym (word_at-stored memory entry.at word full (head_low memory gone rest entry word test are linked)))
          (LinksFrom-kept memory (with_word memory entry.at word) word (places_of (turned test [] gone))
          (same_turned memory gone rest entry word test are) linked),
    )

-- and the other one is as before
pass_link : (memory : FlatMemory) (gone rest : List Entry) (entry : Entry) (word first : ℕ) (test : Entry → Bool)
    → AreHeldBlocks memory (gone ++ entry ∷ rest) → LinksFrom memory first (places_of (turned test [] gone)) → test entry ≡ false
    → LinksFrom (with_word memory entry.at word) first (places_of (turned test [] (gone ++ entry ∷ [])))
pass_link memory gone rest entry word first test are linked fails =
    let more : turned test [] (gone ++ entry ∷ []) ≡ turned test [] gone =
    turned_more test gone [] entry ∙ cond-false (test entry) _ _ fails in
    subst (λ l. LinksFrom (with_word memory entry.at word) first (places_of l)) (sym more)
    (LinksFrom-kept memory (with_word memory entry.at word) first (places_of (turned test [] gone))
    (same_turned memory gone rest entry word test are) linked)

step_entry : (old memory : FlatMemory) (gone rest : List Entry) (entry : Entry) (left next word low high buckets bucket : ℕ)
    (heads : List ℕ) (chain : List Entry) → chain ≡ gone ++ entry ∷ rest → AreFullPages memory.present entry.at 8
    → AreHeldBlocks memory (gone ++ entry ∷ rest) → KeepsBeside old memory chain
    → LinksFrom memory (word_at memory entry.at) (places_of rest) → suc (length rest) ≤ left
    → AllByRecursion (λ (other : Entry). hash_of other.key % buckets ≡ bucket) rest → next ≡ word_at memory entry.at
    → LinksFrom (with_word memory entry.at word) low (places_of (turned (is_of_bucket (2 * buckets) bucket) [] (gone ++ entry ∷ [])))
    → LinksFrom (with_word memory entry.at word) high
    (places_of (turned (is_of_bucket (2 * buckets) (bucket + buckets)) [] (gone ++ entry ∷ [])))
    → heads ≡ low ∷ high ∷ [] → Halfway old (with_word memory entry.at word) next (left - 1) heads buckets bucket chain
step_entry old memory gone rest entry left next word low high buckets bucket heads chain whole full are beside linked few hashed at lower
    upper pair =
    let now : FlatMemory = with_word memory entry.at word in
    let again : (gone ++ entry ∷ []) ++ rest ≡ gone ++ entry ∷ rest = append_assoc gone (entry ∷ []) rest in
    record {
      gone = gone ++ entry ∷ [];
      rest = rest;
      whole = whole ∙ sym again;
      blocks = subst (AreHeldBlocks now) (sym again) (blocks_kept memory gone rest entry word full are);
      beside = λ other size apart.
          bytes_at-with_bytes_apart memory.present entry.at (big_bytes 8 word) other size
          (all_right (λ (e : Entry). AreApart e.at 8 other size) gone (entry ∷ rest)
          (subst (AllByRecursion (λ (e : Entry). AreApart e.at 8 other size)) whole apart)).0
          ∙ beside other size apart;
      linked = subst (λ w. LinksFrom now w (places_of rest)) (sym at)
          (LinksFrom-kept memory now (word_at memory entry.at) (places_of rest)
          (map_all (λ a. word_at now a ≡ word_at memory a) (λ (e : Entry). e.at) rest
          (all_right (λ (e : Entry). word_at now e.at ≡ word_at memory e.at) gone rest (same_words memory gone rest entry word are)))
          linked);
      few = omega (arith, few);
      hashed = hashed;
      low = low;
      high = high;
      pair = pair;
      lower = lower;
      upper = upper;
    }

-- one block is linked anew
pub halfway_step : (old memory : FlatMemory) (at left next hash side : ℕ) (heads : List ℕ) (buckets bucket : ℕ) (chain : List Entry)
    → Halfway old memory at left heads buckets bucket chain → (at ≡ 0 → ⊥) → IsFlat memory → 0 < buckets → next ≡ word_at memory at
    → ((entry : Entry) → entry.at ≡ at → IsHeldBlock memory entry → hash ≡ hash_of entry.key)
    → (hash % (2 * buckets) ≡ bucket → side ≡ 0) → (hash % (2 * buckets) ≡ bucket + buckets → side ≡ 1)
    → Halfway old (with_word memory at (slice_index heads side)) next (left - 1) (slice_set heads side at) buckets bucket chain
halfway_step old memory at left next hash side heads buckets bucket chain is some flat count follows hashed zero_side one_side =
    by is.rest is.whole is.blocks is.linked is.few is.hashed
  where
    place : (entry : Entry) (rest : List Entry) → chain ≡ is.gone ++ entry ∷ rest → AreHeldBlocks memory (is.gone ++ entry ∷ rest)
        → at ≡ entry.at → LinksFrom memory (word_at memory entry.at) (places_of rest) → suc (length rest) ≤ left
        → AllByRecursion (λ (other : Entry). hash_of other.key % buckets ≡ bucket) (entry ∷ rest)
        → Halfway old (with_word memory entry.at (slice_index heads side)) next (left - 1)
        (slice_set heads side entry.at) buckets bucket chain
    place entry rest whole are here linked few buckets_all =
        let held = (all_right (IsHeldBlock memory) is.gone (entry ∷ rest) are.held).0 in
        let full = full_present memory entry.at 8 flat (omega arith) held.present in
        let hash_is : hash ≡ hash_of entry.key = hashed entry (sym here) held in
        let follows_is : next ≡ word_at memory entry.at = follows ∙ ap (word_at memory) here in
        let low : bucket < buckets = subst (λ b. b < buckets) buckets_all.0 (mod-lt (hash_of entry.key) count) in
        elim (either_half (hash_of entry.key) buckets bucket count buckets_all.0 low) [
          | inl below ↦
              let side_is : side ≡ 0 = zero_side (ap (λ h. h % (2 * buckets)) hash_is ∙ below) in
              let word_is : slice_index heads side ≡ is.low = ap (λ h. slice_index h side) is.pair
              ∙ ap (slice_index (is.low ∷ is.high ∷ [])) side_is in
              let set_is : slice_set heads side entry.at ≡ entry.at ∷ is.high ∷ [] =
              ap (λ h. slice_set h side entry.at) is.pair ∙ ap (λ s. slice_set (is.low ∷ is.high ∷ []) s entry.at) side_is in
              step_entry old memory is.gone rest entry left next (slice_index heads side) entry.at is.high buckets bucket
              (slice_set heads side entry.at) chain whole full are is.beside linked few buckets_all.1 follows_is
              (front_link memory is.gone rest entry (slice_index heads side) (is_of_bucket (2 * buckets) bucket) full are
              (subst (λ w. LinksFrom memory w (places_of (turned (is_of_bucket (2 * buckets) bucket) [] is.gone))) (sym word_is) is.lower)
              (eq-eqb (hash_of entry.key % (2 * buckets)) bucket below))
              (pass_link memory is.gone rest entry (slice_index heads side) is.high (is_of_bucket (2 * buckets) (bucket + buckets)) are
              is.upper (ne_eqb (hash_of entry.key % (2 * buckets)) (bucket + buckets) (λ above. omega (arith, above, below, count))))
              set_is
          | inr above ↦
              let side_is : side ≡ 1 = one_side (ap (λ h. h % (2 * buckets)) hash_is ∙ above) in
              let word_is : slice_index heads side ≡ is.high = ap (λ h. slice_index h side) is.pair
              ∙ ap (slice_index (is.low ∷ is.high ∷ [])) side_is in
              let set_is : slice_set heads side entry.at ≡ is.low ∷ entry.at ∷ [] =
              ap (λ h. slice_set h side entry.at) is.pair ∙ ap (λ s. slice_set (is.low ∷ is.high ∷ []) s entry.at) side_is in
              step_entry old memory is.gone rest entry left next (slice_index heads side) is.low entry.at buckets bucket
              (slice_set heads side entry.at) chain whole full are is.beside linked few buckets_all.1 follows_is
              (pass_link memory is.gone rest entry (slice_index heads side) is.low (is_of_bucket (2 * buckets) bucket) are
              is.lower (ne_eqb (hash_of entry.key % (2 * buckets)) bucket (λ below. omega (arith, above, below, count))))
              (front_link memory is.gone rest entry (slice_index heads side) (is_of_bucket (2 * buckets) (bucket + buckets)) full are
              (subst (λ w. LinksFrom memory w (places_of (turned (is_of_bucket (2 * buckets) (bucket + buckets)) [] is.gone))) (sym word_is)
              is.upper)
              (eq-eqb (hash_of entry.key % (2 * buckets)) (bucket + buckets) above))
              set_is
        ]

    by : (rest : List Entry) → chain ≡ is.gone ++ rest → AreHeldBlocks memory (is.gone ++ rest) → LinksFrom memory at (places_of rest)
        → length rest ≤ left → AllByRecursion (λ (other : Entry). hash_of other.key % buckets ≡ bucket) rest
        → Halfway old (with_word memory at (slice_index heads side)) next (left - 1) (slice_set heads side at) buckets bucket chain
    by [] whole are linked few buckets_all = absurd (some linked)
    by (entry ∷ rest) whole are linked few buckets_all =
        subst (λ a. Halfway old (with_word memory a (slice_index heads side)) next (left - 1) (slice_set heads side a) buckets bucket chain)
        (sym linked.0)
        (place entry rest whole are linked.0 linked.2 few buckets_all)
