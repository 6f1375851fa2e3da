-- The table without its pairs: what the four changes of areas leave, and the header that is stored.
use Rattle.std.proofs.Common.{◌≡◌, ℕ, zero, suc, ◌+◌, ◌-◌, ◌*◌, ◌%◌, ◌^◌, ◌/◌, leb, ltb, eqb, false, ◌<◌, ◌≤◌, max, List, [], ◌∷◌, ◌++◌, length, map, replicate, take, drop, get_or, Result, OnOk, IfErr, Option, Some, None, IsSome, is_some, refl, sym, ◌∙◌, ap, ap₂, subst, arith, inl, inr, Contains, All, IsPermutation, pow_pos}
use Rattle.std.specs.List.{AllZip}
use Rattle.std.specs.FinMap.{get, empty, entries, len-entries, len-empty, get-empty}
use Rattle.std.specs.Ordering.{nat_cmp}
use Rattle.std.specs.Cmp.Lexicographic.{slice_cmp}
use Rattle.std.proofs.lemmas.Bool.{or_left, or_cases, cases_Bool, cond-false, false≢true, and_parts, leb-true, ltb-true}
use Rattle.std.proofs.lemmas.List.{nil_from_length}
use Rattle.std.proofs.lemmas.List.Elements.{All-nil}
use Rattle.std.proofs.lemmas.List.Sorted.{IsPermutation-refl}
use Rattle.std.proofs.Math.Seq.{drop-append_seam, take-append_seam}
use Rattle.byteorder.specs.Endian.{big_number}
use Rattle.vm_base.specs.declared.faults.Fault.{Fault}
use Rattle.vm_base.specs.declared.permission.Perm.TheVariants.{ReadWrite}
use Rattle.vm_base.specs.FlatMemory.{Area, PageMap, FlatMemory, area_of, holds, bytes_at}
use Rattle.vm_base.specs.FlatStep.{with_bytes}
use Rattle.vm_base.specs.FlatLaws.{AreFullPages, unmapped}
use Rattle.vm_base.specs.MemoryState.{MemoryState, IsMemory, IsKept, IsListed}
use Rattle.vm_base.specs.MemoryCalls.{Touches, TouchFails, Maps, Changes, Refuses, map_answer, unmap_answer, after_store}
use Rattle.vm_base.proofs.FlatBytes.{bytes_at-split, length-bytes_at}
use Rattle.vm_base.proofs.FlatLaws.{bytes_at-none, bytes_at-with_bytes, bytes_at-with_bytes_apart, bytes_at-unmapped, is_some-with_bytes, full_from_ready, get-unmapped_beyond}
use Rattle.store_meaning.specs.Layout.{classes, header_at, header_area, heap_area, store_area, array_a, array_pages, list_field, array_field, buckets_field, word_at, store_cells}
use Rattle.store_meaning.specs.HeapLayout.{ArePresent, Links, opening_heap}
use Rattle.store_meaning.specs.HashLayout.{Entry, Store, Pairs, IsStore, hash_of}
use Rattle.store_meaning.specs.StoreSteps.{opening_store}
use Rattle.store_meaning.specs.Reach.{Place, Cleared, reach_of}
use Rattle.store_meaning.specs.Standing.{MayHoldStore, KeepsWithin, StaysStanding, Follows, blocks_in}
use Rattle.store_meaning.proofs.Lists.{class_within}
use Rattle.store_meaning.proofs.StoreKept.{part_same}
use Rattle.store_meaning.proofs.Reaching.{reach_of-more}
use Rattle.page_heap.proofs.Mapped.{mapped_by, unmapped_by, map_heap}
use Rattle.page_hash.specs.Clears.{Clears, opening_fields}
use Rattle.page_hash.proofs.StoreReads.{array_region, bucket_count}
use Rattle.page_hash.proofs.AreaSteps.{unmap_heap_behind, unmap_array_last}
use Rattle.page_hash.proofs.TableBegins.{map_array}
use Rattle.page_hash.proofs.PresentTouch.{TouchesPresent, touch_made, region_answer}

-- ---- parts of a range

-- a part of the bytes of a range
pub part_at : (present : PageMap) (address n k size : ℕ) (bytes : List ℕ) → bytes_at present address n ≡ bytes → k + size ≤ n
    → bytes_at present (address + k) size ≡ take size (drop k bytes)
part_at present address n k size bytes are inside =
    let rest : ℕ = n - k - size in
    let whole : n ≡ k + (size + rest) = omega (arith, inside) in
    let front = bytes_at present address k in
    let part = bytes_at present (address + k) size in
    let back = bytes_at present (address + k + size) rest in
    let split : bytes ≡ front ++ (part ++ back) =
    sym are ∙ ap (bytes_at present address) whole ∙ bytes_at-split present address k (size + rest)
    ∙ ap (λ l. front ++ l) (bytes_at-split present (address + k) size rest) in
    let dropped : drop k (front ++ (part ++ back)) ≡ part ++ back =
    ap (λ i. drop i (front ++ (part ++ back))) (sym (length-bytes_at present address k)) ∙ drop-append_seam front (part ++ back) in
    let taken : take size (part ++ back) ≡ part =
    ap (λ i. take i (part ++ back)) (sym (length-bytes_at present (address + k) size)) ∙ take-append_seam part back in
    sym (ap (λ l. take size (drop k l)) split ∙ ap (take size) dropped ∙ taken)

-- a part of a range of zeros
pub zeros_among : (present : PageMap) (address n other size : ℕ) → bytes_at present address n ≡ replicate n 0 → address ≤ other
    → other + size ≤ address + n → bytes_at present other size ≡ replicate size 0
zeros_among present address n other size zeros low high =
    part_same empty present address n other size
    (zeros ∙ sym (bytes_at-none empty address n (λ page inside. get-empty nat_cmp page))) low high
    ∙ bytes_at-none empty other size (λ page inside. get-empty nat_cmp page)

-- ---- the store that is left

nothing_among : (n bucket : ℕ) → get_or (replicate {A = List Entry} n []) bucket [] ≡ []
nothing_among zero bucket = refl
nothing_among (suc n) zero = refl
nothing_among (suc n) (suc bucket) = nothing_among n bucket

no_entries : entries (empty {X = List ℕ} {R = slice_cmp nat_cmp}) ≡ []
no_entries =
    nil_from_length (entries (empty {X = List ℕ} {R = slice_cmp nat_cmp}))
    (sym (len-entries (empty {X = List ℕ} {R = slice_cmp nat_cmp})) ∙ len-empty (slice_cmp nat_cmp) (List ℕ))

no_blocks : (cs : List ℕ) → AllZip (λ class peak. blocks_in opening_heap class ≤ peak) cs (map (λ class. 0) cs)
no_blocks [] = tt
no_blocks (c ∷ cs) = let none : blocks_in opening_heap c ≡ 0 = refl in (omega (arith, none), no_blocks cs)

-- a memory with the header's page alone, and these fields, has the store that begins
pub opening_is : (memory : FlatMemory) → memory.areas ≡ header_area ∷ store_area array_a 1 ∷ heap_area ∷ []
    → bytes_at memory.present header_at 168 ≡ opening_fields → bytes_at memory.present (header_at + 168) 3928 ≡ replicate 3928 0
    → ((page : ℕ) → IsSome (get memory.present page) → page ≡ 512) → ArePresent memory header_at 4096
    → IsStore memory opening_store empty
opening_is memory areas fields rest only header =
    let field : (k size : ℕ) → k + size ≤ 168 → bytes_at memory.present (header_at + k) size ≡ take size (drop k opening_fields) =
    λ k size inside. part_at memory.present header_at 168 k size opening_fields fields inside in
    let lists : bytes_at memory.present (header_at + 8) 136 ≡ replicate 136 0 = field 8 136 (omega arith) in
    let zero_bucket : (bucket : ℕ) → word_at memory (array_a + 8 * bucket) ≡ 0 = λ bucket.
    ap (big_number 8)
    (bytes_at-none memory.present (array_a + 8 * bucket) 8
    (λ page inside. none_from (get memory.present page) (λ there. omega (arith, only page there, inside.0)))) in
    record {
      table = record {
        areas = areas;
        array = ap (big_number 8) (field 144 8 (omega arith));
        buckets = ap (big_number 8) (field 152 8 (omega arith));
        pairs = ap (big_number 8) (field 160 8 (omega arith));
        rest = rest;
        doubled = (0, record { buckets = refl; few = omega arith; region = refl });
        linked = λ bucket inside. subst (λ (chain : List Entry).
            Links memory (array_a + 8 * bucket) (map (λ entry. entry.at) chain))
            (sym (nothing_among 512 bucket)) (zero_bucket bucket);
        hashed = λ bucket inside.
            subst (λ (chain : List Entry). All (λ entry. hash_of entry.key % length opening_store.table.chains ≡ bucket) chain)
            (sym (nothing_among 512 bucket)) (All-nil _);
        held = All-nil _;
      };
      heap = record {
        areas = subst (λ a. Contains a header_area × Contains a heap_area) (sym areas)
            ((0, omega arith, refl), (2, omega arith, refl));
        top = ap (big_number 8) (field 0 8 (omega arith));
        lists = λ class in_classes. ap (big_number 8)
            (zeros_among memory.present (header_at + 8) 136 (list_field class) 8 lists
            (omega (arith, (class_within class in_classes).0))
            (omega (arith, (class_within class in_classes).0, (class_within class in_classes).1)));
        order = [];
        same = IsPermutation-refl [];
        fill = refl;
        classed = All-nil _;
        halves = All-nil _;
        header = header;
        within = omega arith;
      };
      used = IsPermutation-refl [];
      pairs = subst (IsPermutation []) (sym no_entries) (IsPermutation-refl []);
    }
  where
    none_from : {X : Type 0} (o : Option X) → (IsSome o → ⊥) → o ≡ None
    none_from None never = refl
    none_from (Some x) never = absurd (never refl)

-- such a store keeps within the reach behind the place where all pairs were taken out
pub opening_within : (state : MemoryState) (bound : ℕ) (gone : List Place)
    → ((page : ℕ) → IsSome (get state.mem.present page) → page ≡ 512)
    → KeepsWithin state opening_store (reach_of (gone ++ Cleared ∷ []))
opening_within state bound gone only = subst (KeepsWithin state opening_store) (sym (reach_of-more gone Cleared)) (record {
  blocks = no_blocks classes;
  pages = λ page there high. absurd (omega (arith, only page there, high));
  buckets = inl refl;
})

max_left : (one two : ℕ) → one ≤ max one two
max_left one two = omega arith

-- so a memory that has it and no higher `most` follows
pub opening_follows : (old new : MemoryState) → new.most ≡ old.most → IsStore new.mem opening_store empty
    → ((page : ℕ) → IsSome (get new.mem.present page) → page ≡ 512)
    → Follows old new (λ pairs. empty) (λ pairs. Cleared ∷ [])
opening_follows old new most is only = record {
  map = λ pairs stands. (opening_store, is);
  within = λ pairs before gone stands. record {
    store = opening_store;
    stands = is;
    within = opening_within new 0 gone only;
    most =
        let raised : (reach_of gone).bound ≤ (reach_of (gone ++ Cleared ∷ [])).bound =
        subst (λ r. (reach_of gone).bound ≤ r.bound) (sym (reach_of-more gone Cleared)) (max_left (reach_of gone).bound _) in
        omega (arith, most, stands.most, raised);
  };
}

-- ---- the pages that are left

-- a page of the header's area alone is the header's
pub header_alone : (page : ℕ) → IsSome (area_of (header_area ∷ []) page) → page ≡ 512
header_alone page found = elim (cases_Bool (holds header_area page)) [
  | inl here ↦
      let tests = and_parts (leb 512 page) (ltb page 513) here in
      omega (arith, leb-true 512 page tests.0, ltb-true page 513 tests.1)
  | inr apart ↦ absurd (false≢true (sym (ap is_some (cond-false (holds header_area page) (Some header_area) None apart)) ∙ found))
]

-- the header's page is no page of the heap nor of an array, so it is left as it was
pub header_left : (present : PageMap) (first n other size : ℕ) → 513 ≤ first → header_at ≤ other → other + size ≤ header_at + 4096
    → bytes_at (unmapped present first n) other size ≡ bytes_at present other size
header_left present first n other size low above below =
    bytes_at-unmapped present first n other size (inr (omega (arith, low, below)))

-- the memory keeps what a store needs
pub may_kept : (old new : MemoryState) → IsKept old new store_cells → MayHoldStore old → MayHoldStore new
may_kept old new kept may = record {
  slots = omega (arith, kept.slots, may.slots);
  used = λ cell there. elim (kept.used cell there) [ inl before ↦ may.used cell before | inr now ↦ now ];
  room = omega (arith, kept.room, may.room);
}

-- ---- the four changes of the areas

-- the three areas of a store that begins, and the header's page alone, with zeros behind the fields
pub record IsBare (old state : MemoryState) : Type 0 where
  pub areas : state.mem.areas ≡ header_area ∷ store_area array_a 1 ∷ heap_area ∷ []
  pub only : (page : ℕ) → IsSome (get state.mem.present page) → page ≡ 512
  pub there : IsSome (get state.mem.present 512)
  pub rest : bytes_at state.mem.present (header_at + 168) 3928 ≡ replicate 3928 0
  pub most : state.most ≡ old.most

-- an unmapping that the flat memory answers was made
abbrev pub IsUnmapping : MemoryState → MemoryState → ℕ → ℕ → Type 0
IsUnmapping old new first n = (result : Result (Unit {0}) Fault)
    × (OnOk result (Changes old new (unmap_answer old first n)) × IfErr result (λ fault. Refuses old new (unmap_answer old first n) fault))

-- and so was a mapping
abbrev pub IsMapping : MemoryState → MemoryState → ℕ → ℕ → Type 0
IsMapping old new first n = (result : Result (Unit {0}) Fault)
    × (OnOk result (Maps old new (map_answer old first n ReadWrite))
    × IfErr result (λ fault. Refuses old new (map_answer old first n ReadWrite) fault))

pub bare : (s0 s1 s2 s3 s4 : MemoryState) (store : Store) (of : Pairs) (array buckets : ℕ) → IsStore s0.mem store of
    → array ≡ word_at s0.mem array_field → buckets ≡ word_at s0.mem buckets_field → IsMemory s2
    → IsUnmapping s0 s1 2097152 131584 → IsUnmapping s1 s2 (array / 4096) (buckets / 512) → IsMapping s2 s3 2097152 131584
    → IsMapping s3 s4 524288 1 → IsBare s0 s4
bare s0 s1 s2 s3 s4 store of array buckets is at counted sound one two three four =
    let times : ℕ = is.table.doubled.0 in
    let some : 0 < 2 ^ times = pow_pos times in
    let count = bucket_count s0.mem store.table is.table in
    let at_is : array ≡ store.table.array = at ∙ is.table.array in
    let buckets_are : buckets ≡ length store.table.chains = counted ∙ is.table.buckets in
    let pages : array_pages (length store.table.chains) ≡ buckets / 512 =
    omega (arith, buckets_are, is.table.doubled.1.buckets) in
    let first : store.table.array / 4096 ≡ array / 4096 = ap (λ a. a / 4096) (sym at_is) in
    let low : (513 ≤ array / 4096) × (array / 4096 + buckets / 512 ≤ 2097152) = elim (array_region s0.mem store.table is.table) [
      | inl a ↦ (omega (arith, at_is, a), omega (arith, at_is, a, buckets_are, count.1))
      | inr b ↦ (omega (arith, at_is, b), omega (arith, at_is, b, buckets_are, count.1))
    ] in
    let area : Area = record { first = array / 4096; pages = buckets / 512; perm = ReadWrite } in
    let areas : s0.mem.areas ≡ header_area ∷ area ∷ heap_area ∷ [] =
    is.table.areas
    ∙ ap₂ (λ f p. header_area ∷ record { first = f; pages = p; perm = ReadWrite } ∷ heap_area ∷ []) first pages in
    let made1 = unmapped_by s0 s1 one.0 2097152 131584 _ (unmap_heap_behind s0.mem area areas low.1) one.1.0 one.1.1 in
    let made2 = unmapped_by s1 s2 two.0 (array / 4096) (buckets / 512) _
    (unmap_array_last s1.mem (array / 4096) (buckets / 512) (ap (λ (m : FlatMemory). m.areas) made1.0) low.0
    (omega (arith, buckets_are, count.0))) two.1.0 two.1.1 in
    let areas2 : s2.mem.areas ≡ header_area ∷ [] = ap (λ (m : FlatMemory). m.areas) made2.0 in
    let made3 = mapped_by s2 s3 three.0 2097152 131584 _ (map_heap s2.mem areas2) three.1.0 three.1.1 in
    let made4 = mapped_by s3 s4 four.0 524288 1 _ (map_array s3.mem (ap (λ (s : MemoryState). s.mem.areas) made3)) four.1.0 four.1.1 in
    let present : s4.mem.present ≡ s2.mem.present =
    ap (λ (s : MemoryState). s.mem.present) made4 ∙ ap (λ (s : MemoryState). s.mem.present) made3 in
    let left : s2.mem.present ≡ unmapped (unmapped s0.mem.present 2097152 131584) (array / 4096) (buckets / 512) =
    ap (λ (m : FlatMemory). m.present) made2.0
    ∙ ap (λ (m : FlatMemory). unmapped m.present (array / 4096) (buckets / 512)) made1.0 in
    let whole : s4.mem.present ≡ unmapped (unmapped s0.mem.present 2097152 131584) (array / 4096) (buckets / 512) = present ∙ left in
    record {
      areas = ap (λ (s : MemoryState). s.mem.areas) made4;
      only = λ page there. header_alone page
          (subst (λ a. IsSome (area_of a page)) areas2
          (sound.flat.in_areas page (subst (λ (p : PageMap). IsSome (get p page)) present there)));
      there = subst (λ (p : PageMap). IsSome (get p 512)) (sym whole)
          (ap is_some (get-unmapped_beyond (unmapped s0.mem.present 2097152 131584) (array / 4096) (buckets / 512) 512
          (inl (omega (arith, low.0))))
          ∙ ap is_some (get-unmapped_beyond s0.mem.present 2097152 131584 512 (inl (omega arith)))
          ∙ is.heap.header 512 (omega arith) (omega arith));
      rest = ap (λ (p : PageMap). bytes_at p (header_at + 168) 3928) whole
          ∙ header_left (unmapped s0.mem.present 2097152 131584) (array / 4096) (buckets / 512) (header_at + 168) 3928 low.0
          (omega arith) (omega arith)
          ∙ header_left s0.mem.present 2097152 131584 (header_at + 168) 3928 (omega arith) (omega arith) (omega arith)
          ∙ is.table.rest;
      most = ap (λ (s : MemoryState). s.most) made4 ∙ ap (λ (s : MemoryState). s.most) made3 ∙ made2.1 ∙ made1.1;
    }

-- ---- the header's fields

-- the header was touched and its fields stored: the table is empty
pub clears : (old bare touched new : MemoryState) → IsBare old bare → TouchesPresent bare touched header_at 168 → IsMemory touched
    → new ≡ after_store touched header_at opening_fields → Clears old new
clears old bare touched new is touch sound stored =
    let same : touched.mem.present ≡ bare.mem.present = ap (λ (m : FlatMemory). m.present) touch.mem in
    let present : new.mem.present
    ≡ with_bytes touched.mem.present header_at opening_fields = ap (λ (s : MemoryState). s.mem.present) stored in
    let full : AreFullPages touched.mem.present header_at 168 = full_from_ready touched header_at 168 sound touch.ready in
    let pages : (page : ℕ) → is_some (get new.mem.present page) ≡ is_some (get bare.mem.present page) = λ page.
    ap (λ (p : PageMap). is_some (get p page)) present
    ∙ is_some-with_bytes touched.mem.present header_at opening_fields
    (λ q inside. sound.present q (touch.ready q inside)) page
    ∙ ap (λ (p : PageMap). is_some (get p page)) same in
    let only : (page : ℕ) → IsSome (get new.mem.present page) → page ≡ 512 = λ page there. is.only page (sym (pages page) ∙ there) in
    let store = opening_is new.mem
    (ap (λ (s : MemoryState). s.mem.areas) stored ∙ ap (λ (m : FlatMemory). m.areas) touch.mem ∙ is.areas)
    (ap (λ (p : PageMap). bytes_at p header_at 168) present ∙ bytes_at-with_bytes touched.mem.present header_at opening_fields full)
    (ap (λ (p : PageMap). bytes_at p (header_at + 168) 3928) present
    ∙ bytes_at-with_bytes_apart touched.mem.present header_at opening_fields (header_at + 168) 3928 (inl (omega arith))
    ∙ ap (λ (p : PageMap). bytes_at p (header_at + 168) 3928) same ∙ is.rest)
    only
    (λ page low high. subst (λ p. IsSome (get new.mem.present p)) (there_page page low high) (pages 512 ∙ is.there)) in
    record {
      follows = opening_follows old new (ap (λ (s : MemoryState). s.most) stored ∙ touch.most ∙ is.most) store only;
      store = store;
      pages = only;
    }
  where
    there_page : (page : ℕ) → header_at < (page + 1) * 4096 → page * 4096 < header_at + 4096 → 512 ≡ page
    there_page page low high = omega (arith, low, high)

-- a store stays standing where the table was cleared
pub clear_stays : (old new : MemoryState) → MayHoldStore old → Clears old new → IsKept old new store_cells → StaysStanding old new
clear_stays old new may clear kept = record {
  standing = record { may = may_kept old new kept may; pairs = empty; stands = (opening_store, clear.store) };
  keeps = kept;
}

-- the header's cell is one of a store
pub header_listed : (cell : ℕ) → IsListed cell (1 ∷ []) → IsListed cell store_cells
header_listed cell listed = elim (or_cases (eqb 1 cell) false listed) [
  | inl here ↦ or_left (eqb 1 cell) _ here
  | inr never ↦ absurd (false≢true never)
]

-- the header's page is touched, and it is there
pub bare_touch : (old bare new : MemoryState) (result : Result (Unit {0}) Fault) → IsBare old bare → IsMemory bare → MayHoldStore bare
    → OnOk result (Touches bare new header_at 168) → IfErr result (λ fault. TouchFails bare new header_at 168 fault)
    → TouchesPresent bare new header_at 168
bare_touch old bare new result is sound may touches fails =
    touch_made bare new result header_at 168 sound
    (region_answer bare header_area header_at 168 sound may
    (subst (λ a. Contains a header_area) (sym is.areas) (0, omega arith, refl)) (omega arith, omega arith) refl
    header_listed)
    (λ page inside. subst (λ p. IsSome (get bare.mem.present p)) (here page inside.0 inside.1) is.there) touches fails
  where
    here : (page : ℕ) → 512 ≤ page → page < 513 → 512 ≡ page
    here page low high = omega (arith, low, high)
