-- A memory that stands within its reach does so behind the touches of a put, made or refused.
use Rattle.std.proofs.Common.{◌≡◌, ℕ, ◌+◌, ◌*◌, ◌<◌, ◌≤◌, ◌⊎◌, max, List, [], ◌∷◌, ◌++◌, length, IsSome, Option, Some, None, refl, sym, ◌∙◌, ap, subst, arith, inl, inr, All, is_some}
use Rattle.std.specs.FinMap.{get}
use Rattle.std.specs.List.{AllByRecursion, AllZip}
use Rattle.std.proofs.lemmas.List.{length-replicate}
use Rattle.std.proofs.lemmas.List.Elements.{All-replicate}
use Rattle.vm_base.specs.Places.{page_of, page_count}
use Rattle.vm_base.specs.FlatMemory.{FlatMemory, IsFlat, bytes_at, zero_page}
use Rattle.vm_base.specs.MemoryState.{MemoryState, IsMemory, own_of}
use Rattle.vm_base.specs.MemoryCalls.{IsInRange, touched}
use Rattle.vm_base.proofs.FlatLaws.{bytes_at-with_pages, get-with_pages_there, get-with_pages_beyond, get-with_pages_absent}
use Rattle.vm_base.proofs.FlatAreas.{area_of-found}
use Rattle.vm_base.proofs.OwnFrames.{kept-with_pages}
use Rattle.store_meaning.specs.Layout.{classes, heap_at}
use Rattle.store_meaning.specs.HeapLayout.{ArePresent}
use Rattle.store_meaning.specs.HashLayout.{Store, Pairs, IsStore}
use Rattle.store_meaning.specs.Owned.{Range, owned}
use Rattle.store_meaning.specs.Reach.{Place, At, Reach, reach_of, count_of}
use Rattle.store_meaning.specs.Standing.{Stands, KeepsWithin, blocks_in}
use Rattle.store_meaning.proofs.HeapSteps.{KeepsPages}
use Rattle.store_meaning.proofs.StoreKept.{store_kept}
use Rattle.store_meaning.proofs.ReachFrames.{own_of-bound}
use Rattle.store_meaning.proofs.Reaching.{reach_of-more, KeepsWithin-more, Stands-more}
use Rattle.page_hash.specs.Touching.{IsOfStore, MakesPresent, LacksStorePage, MakesReady}
use Rattle.page_hash.proofs.NextReach.{bytes_of, place_counted}
use Rattle.page_hash.proofs.Touched.{meets_range}

-- the two memories read alike, and no page has gone
pub record ReadsAlike (old new : FlatMemory) : Type 0 where
  pub areas : new.areas ≡ old.areas
  pub bytes : (address n : ℕ) → bytes_at new.present address n ≡ bytes_at old.present address n
  pub pages : KeepsPages old new

pub alike_same : (old new : FlatMemory) → new ≡ old → ReadsAlike old new
alike_same old new same = subst (λ m. ReadsAlike old m) (sym same) (record {
  areas = refl;
  bytes = λ address n. refl;
  pages = λ page there. there;
})

pub alike_on : (one two three : FlatMemory) → ReadsAlike one two → ReadsAlike two three → ReadsAlike one three
alike_on one two three first second = record {
  areas = second.areas ∙ first.areas;
  bytes = λ address n. second.bytes address n ∙ first.bytes address n;
  pages = λ page there. second.pages page (first.pages page there);
}

pub alike_touched : (memory : FlatMemory) (address n : ℕ) → ReadsAlike memory (touched memory address n)
alike_touched memory address n = record {
  areas = refl;
  bytes = λ other size. bytes_at-with_pages memory.present (page_of address) (page_count address n) other size;
  pages = λ page there. kept-with_pages (page_count address n) memory.present (page_of address) page there;
}

pub alike_present : (old new : MemoryState) (address n : ℕ) → MakesPresent old new address n → ReadsAlike old.mem new.mem
alike_present old new address n makes = subst (ReadsAlike old.mem) (sym makes.mem) (alike_touched old.mem address n)

all_same : {X : Type 0} (P : X → Type 0) (xs : List X) → ((x : X) → P x) → AllByRecursion P xs
all_same P [] each = tt
all_same P (x ∷ xs) each = (each x, all_same P xs each)

-- so it stands for what it stood for
pub store_alike : (old new : FlatMemory) (store : Store) (of : Pairs) → ReadsAlike old new → IsStore old store of → IsStore new store of
store_alike old new store of alike is =
    store_kept old new store of is alike.areas
    (all_same (λ (range : Range). bytes_at new.present range.at range.size ≡ bytes_at old.present range.at range.size) (owned store)
    (λ range. alike.bytes range.at range.size)) alike.pages

-- and the other way round, where the pages are those of a flat memory
pub present_alike : (old new : FlatMemory) (address n : ℕ) → ReadsAlike old new → ArePresent old address n → ArePresent new address n
present_alike old new address n alike there page low high = alike.pages page (there page low high)

-- ---- which pages are present

pub in_or_out : (address n page : ℕ) → IsInRange page address n ⊎ (IsInRange page address n → ⊥)
in_or_out address n page = grind arith

-- a page is present behind a touch where it was before, or where it is of the range
pub touched_page : (memory : FlatMemory) (address n page : ℕ) → IsSome (get (touched memory address n).present page)
    → IsSome (get memory.present page) ⊎ IsInRange page address n
touched_page memory address n page there = elim (in_or_out address n page) [
  | inl inside ↦ inr inside
  | inr outside ↦ inl (subst (λ (p : Option (List ℕ)). IsSome p)
      (get-with_pages_beyond memory.present (page_of address) (page_count address n) page (beyond outside)) there)
]
  where
    beyond : (IsInRange page address n → ⊥) → (page < page_of address) ⊎ (page_of address + page_count address n ≤ page)
    beyond outside = grind arith

-- ---- a flat memory behind a touch

touched_bytes : (memory : FlatMemory) (address n page : ℕ) (bytes : List ℕ) → get (touched memory address n).present page ≡ Some bytes
    → (get memory.present page ≡ Some bytes) ⊎ (bytes ≡ zero_page)
touched_bytes memory address n page bytes is = by (get memory.present page) refl
  where
    bytes_in : Option (List ℕ) → List ℕ
    bytes_in None = []
    bytes_in (Some b) = b

    by : (was : Option (List ℕ)) → get memory.present page ≡ was → (get memory.present page ≡ Some bytes) ⊎ (bytes ≡ zero_page)
    by (Some b) there = inl (there ∙ sym (get-with_pages_there memory.present (page_of address) (page_count address n) page b there) ∙ is)
    by None absent = elim (in_or_out address n page) [
      | inl inside ↦ inr (ap bytes_in (sym is
          ∙ get-with_pages_absent memory.present (page_of address) (page_count address n) page inside absent))
      | inr outside ↦ inl (sym (get-with_pages_beyond memory.present (page_of address) (page_count address n) page (beyond outside)) ∙ is)
    ]
      where
        beyond : (IsInRange page address n → ⊥) → (page < page_of address) ⊎ (page_of address + page_count address n ≤ page)
        beyond outside = grind arith

-- the pages of a touch make no memory less flat
pub flat_touched : (memory : FlatMemory) (address n : ℕ) → IsFlat memory → IsOfStore memory address n → IsFlat (touched memory address n)
flat_touched memory address n flat is = record {
  in_order = flat.in_order;
  few = flat.few;
  bytes = λ page bytes there. elim (touched_bytes memory address n page bytes there) [
    | inl before ↦ flat.bytes page bytes before
    | inr zeros ↦ subst (All (λ byte. byte < 256)) (sym zeros) (All-replicate (λ byte. byte < 256) 4096 0 (omega arith))
  ];
  whole = λ page bytes there. elim (touched_bytes memory address n page bytes there) [
    | inl before ↦ flat.whole page bytes before
    | inr zeros ↦ ap length zeros ∙ length-replicate {A = ℕ} 4096 0
  ];
  low = flat.low;
  in_areas = λ page there. elim (touched_page memory address n page there) [
    | inl before ↦ flat.in_areas page before
    | inr inside ↦
        let meets = meets_range address n page inside in
        ap is_some (area_of-found memory.areas is.area page flat.in_order is.listed
        (omega (arith, is.has.0, meets.0), omega (arith, is.has.1, meets.1)))
  ];
}

-- ---- within the reach

-- the memory stands for the map by this store, within the reach of the places
pub record KeepsTo (state : MemoryState) (store : Store) (of : Pairs) (before : ℕ) (places : List Place) : Type 0 where
  pub stands : IsStore state.mem store of
  pub within : KeepsWithin state store (reach_of places)
  pub most : state.most ≤ max before (reach_of places).bound

-- the range has no page above the heap's bytes that the places allow
abbrev pub IsAllowed : ℕ → ℕ → List Place → Type 0
IsAllowed address n places = (page : ℕ) → IsInRange page address n → heap_at ≤ 4096 * page
    → 4096 * page < heap_at + bytes_of classes (reach_of places).peaks

-- one more place
pub keeps_more : (state : MemoryState) (of pairs : Pairs) (before : ℕ) (gone : List Place) (stands : Stands state of before gone)
    → KeepsTo state stands.store of before (gone ++ At pairs ∷ [])
keeps_more state of pairs before gone stands = record {
  stands = stands.stands;
  within = subst (KeepsWithin state stands.store) (sym (reach_of-more gone (At pairs)))
      (KeepsWithin-more state stands.store (reach_of gone) pairs stands.within);
  most = (Stands-more state of pairs before gone stands).most;
}

-- that place counts its pairs
pub counted_behind : (state : MemoryState) (of pairs : Pairs) (before : ℕ) (gone : List Place) → Stands state of before gone
    → AllZip (λ c p. count_of pairs c ≤ p) classes (reach_of (gone ++ At pairs ∷ [])).peaks
counted_behind state of pairs before gone stands =
    subst (λ (r : Reach). AllZip (λ c p. count_of pairs c ≤ p) classes r.peaks) (sym (reach_of-more gone (At pairs)))
    (place_counted state stands.store (reach_of gone) pairs stands.within)

pub stands_by : (state : MemoryState) (store : Store) (of : Pairs) (before : ℕ) (places : List Place) → KeepsTo state store of before places
    → Stands state of before places
stands_by state store of before places keeps =
    record { store = store; stands = keeps.stands; within = keeps.within; most = keeps.most }

within_pages : (old new : MemoryState) (store : Store) (places : List Place)
    → ((page : ℕ) → IsSome (get new.mem.present page) → IsSome (get old.mem.present page)
    ⊎ (heap_at ≤ 4096 * page → 4096 * page < heap_at + bytes_of classes (reach_of places).peaks))
    → KeepsWithin old store (reach_of places) → KeepsWithin new store (reach_of places)
within_pages old new store places from within = record {
  blocks = within.blocks;
  pages = λ page there up. elim (from page there) [ inl before ↦ within.pages page before up | inr allowed ↦ allowed up ];
  buckets = within.buckets;
}

-- a touch that was made
pub keeps_touched : (old new : MemoryState) (address n : ℕ) (store : Store) (of : Pairs) (before : ℕ) (places : List Place) → IsMemory new
    → MakesPresent old new address n → IsAllowed address n places → KeepsTo old store of before places → KeepsTo new store of before places
keeps_touched old new address n store of before places sound makes allowed keeps =
    let is : IsStore new.mem store of = store_alike old.mem new.mem store of (alike_present old new address n makes) keeps.stands in
    let within : KeepsWithin new store (reach_of places) = within_pages old new store places
    (λ page there. elim (touched_page old.mem address n page (subst (λ m. IsSome (get m.present page)) makes.mem there)) [
      | inl before ↦ inl before
      | inr inside ↦ inr (allowed page inside)
    ]) keeps.within in
    let own = own_of-bound new store of places sound.flat is within in
    let same : own_of new.mem ≡ own_of (touched old.mem address n) = ap own_of makes.mem in
    record { stands = is; within = within; most = omega (arith, makes.most, keeps.most, own, same) }

-- a touch that was refused
pub keeps_lacking : (old new : MemoryState) (address n at : ℕ) (store : Store) (of : Pairs) (before : ℕ) (places : List Place)
    → IsMemory old → LacksStorePage old new address n at → IsOfStore old.mem address n → IsAllowed address n places
    → KeepsTo old store of before places → KeepsTo new store of before places
keeps_lacking old new address n at store of before places sound lacks is_of allowed keeps =
    let then : MemoryState = record old { mem = touched old.mem address n } in
    let is : IsStore then.mem store of = store_alike old.mem then.mem store of (alike_touched old.mem address n) keeps.stands in
    let within : KeepsWithin then store (reach_of places) = within_pages old then store places
    (λ page there. elim (touched_page old.mem address n page there) [
      | inl before ↦ inl before
      | inr inside ↦ inr (allowed page inside)
    ]) keeps.within in
    let own = own_of-bound then store of places (flat_touched old.mem address n sound.flat is_of) is within in
    record {
      stands = subst (λ m. IsStore m store of) (sym lacks.mem) keeps.stands;
      within = within_pages old new store places
          (λ page there. inl (subst (λ m. IsSome (get m.present page)) lacks.mem there)) keeps.within;
      most = omega (arith, lacks.most, keeps.most, own);
    }

-- a touch of pages that were present
pub keeps_ready : (old new : MemoryState) (address n : ℕ) (store : Store) (of : Pairs) (before : ℕ) (places : List Place)
    → MakesReady old new address n → KeepsTo old store of before places → KeepsTo new store of before places
keeps_ready old new address n store of before places makes keeps = record {
  stands = subst (λ m. IsStore m store of) (sym makes.mem) keeps.stands;
  within = within_pages old new store places (λ page there. inl (subst (λ m. IsSome (get m.present page)) makes.mem there)) keeps.within;
  most = omega (arith, makes.most, keeps.most);
}

-- stores that make another store of it
pub keeps_stored : (old new : MemoryState) (store then : Store) (of to : Pairs) (before : ℕ) (places : List Place)
    → ((page : ℕ) → IsSome (get new.mem.present page) → IsSome (get old.mem.present page)) → new.most ≡ old.most
    → IsStore new.mem then to → AllZip (λ c p. blocks_in then.heap c ≤ p) classes (reach_of places).peaks
    → length then.table.chains ≡ length store.table.chains
    → KeepsTo old store of before places → KeepsTo new then to before places
keeps_stored old new store then of to before places pages most is blocks as_many keeps = record {
  stands = is;
  within = record {
    blocks = blocks;
    pages = λ page there up. keeps.within.pages page (pages page there) up;
    buckets = elim keeps.within.buckets [
      | inl first ↦ inl (omega (arith, first, as_many))
      | inr few ↦ inr (omega (arith, few, as_many))
    ];
  };
  most = omega (arith, most, keeps.most);
}

-- a range below the heap is allowed always
pub allowed_below : (address n : ℕ) (places : List Place) → address + n ≤ heap_at → IsAllowed address n places
allowed_below address n places low page inside up =
    let meets = meets_range address n page inside in absurd (omega (arith, low, meets.1, up))

-- and one in a block that ends within those bytes
pub allowed_block : (address n end : ℕ) (places : List Place) → address + n ≤ end
    → end ≤ heap_at + bytes_of classes (reach_of places).peaks → IsAllowed address n places
allowed_block address n end places low high page inside up =
    let meets = meets_range address n page inside in omega (arith, low, high, meets.1)
