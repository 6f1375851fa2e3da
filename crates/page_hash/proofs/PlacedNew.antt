-- A put of a new key: what its touches and its stores leave.
use Rattle.std.proofs.Common.{◌≡◌, ℕ, suc, ◌+◌, ◌-◌, ◌^◌, ◌<◌, ◌≤◌, List, [], ◌∷◌, ◌++◌, length, map, IsSome, sym, ◌∙◌, ap, subst, arith, inl, inr, Contains}
use Rattle.std.specs.Prelude.{None}
use Rattle.std.specs.Option.{option_map}
use Rattle.std.specs.FinMap.{get, insert, entries}
use Rattle.std.specs.List.{AllZip}
use Rattle.std.proofs.lemmas.List.Sorted.{IsPermutation-refl}
use Rattle.byteorder.specs.Endian.{big_bytes, big_number}
use Rattle.vm_base.specs.FlatMemory.{FlatMemory}
use Rattle.vm_base.specs.FlatLaws.{AreFullPages}
use Rattle.vm_base.specs.MemoryState.{MemoryState, IsMemory, IsKept}
use Rattle.vm_base.specs.MemoryCalls.{IsInRange, IsReady}
use Rattle.vm_base.proofs.FlatLaws.{full_from_ready}
use Rattle.store_meaning.specs.Layout.{classes, class_of, header_at, heap_at, heap_end, pairs_field, store_cells, word_at}
use Rattle.store_meaning.specs.HeapLayout.{Heap, IsHeap, ArePresent, next_at, committed}
use Rattle.store_meaning.specs.HashLayout.{Entry, Store, Pairs, IsStore, pair_size, pair_class, entry_block, entries_of, chain_of}
use Rattle.store_meaning.specs.StoreSteps.{bucket_of, entry_for, put_by, put_in}
use Rattle.store_meaning.specs.Reach.{Place, At, reach_of, count_of}
use Rattle.store_meaning.specs.Standing.{Stands, MayHoldStore, blocks_in}
use Rattle.store_meaning.proofs.Lists.{all_mono, all_left, all_map, map_all, all_permuted}
use Rattle.store_meaning.proofs.Blocks.{LiesIn}
use Rattle.store_meaning.proofs.HeapSteps.{blocks_within, first_small}
use Rattle.store_meaning.proofs.OwnedApart.{class_of-holds}
use Rattle.page_heap.specs.declared.planned.Plan.{Plan}
use Rattle.page_heap.specs.HeapCalls.{IsPlanned, block_plan, plan_for, commit_store}
use Rattle.page_heap.proofs.Plans.{commits}
use Rattle.page_hash.specs.declared.search.Search.{Search}
use Rattle.page_hash.specs.PairStores.{pair_bytes}
use Rattle.page_hash.specs.Touching.{IsOfStore, MakesPresent, LacksStorePage, MakesReady}
use Rattle.page_hash.specs.Walks.{bucket_at, IsSearch}
use Rattle.page_hash.specs.Puts.{FitsPair, AddsOnly, MeetsBlock, Places, PlaceFails, LacksKey, IsReadyForNew, new_stored, put_at}
use Rattle.page_hash.proofs.MapEntries.{get_entry, chain_part}
use Rattle.page_hash.proofs.NextReach.{committed_within, next_within, count_new}
use Rattle.page_hash.proofs.StoreChanges.{bucket_inside}
use Rattle.page_hash.proofs.PutRanges.{heap_range, bucket_range, ready_part}
use Rattle.page_hash.proofs.Touched.{meets_range, absent_not}
use Rattle.page_hash.proofs.PutStanding.{ReadsAlike, IsAllowed, keeps_more, keeps_touched, keeps_lacking, keeps_ready, counted_behind, allowed_block, allowed_below, alike_present, alike_same, alike_on, store_alike, touched_page}
use Rattle.page_hash.proofs.StoreParts.{StoresIn, putting, stores_in, full_then}
use Rattle.page_hash.proofs.NewParts.{planned_at, CommitsIn, commits_in, commit_ready, word_stored, HoldsPair, holds_pair, pair_bytes-size, entries_few, class_half}
use Rattle.page_hash.proofs.NewSteps.{class_is_listed, bucket_between, new_makes}
use Rattle.page_hash.proofs.PutAnswers.{places_by, fails_by, KeepsMore}

-- the plan is that of each heap for so many bytes, and lies in the heap
pub record IsPlanOf (memory : FlatMemory) (plan : Plan) (size : ℕ) : Type 0 where
  pub given : (heap : Heap) → IsHeap memory heap → plan ≡ block_plan heap size
  pub within : (heap_at ≤ plan.addr) × (plan.addr + 2 ^ plan.class ≤ heap_end)

-- ---- what a store says of the plan

pub size_few : (key value : List ℕ) → FitsPair key value → (16 ≤ pair_size key value) × (pair_size key value ≤ 2097152)
size_few key value fits = (omega arith, omega (arith, fits.0, fits.1))

pub plan_is : (memory : FlatMemory) (store : Store) (of : Pairs) (plan : Plan) (size : ℕ) → IsStore memory store of
    → IsPlanOf memory plan size
    → (plan.addr ≡ next_at store.heap (class_of size)) × (plan.class ≡ class_of size)
plan_is memory store of plan size is planned = planned_at store.heap (class_of size) plan (planned.given store.heap is.heap)

pub plan_room : (memory : FlatMemory) (store : Store) (of : Pairs) (plan : Plan) (size : ℕ) → IsStore memory store of
    → IsPlanOf memory plan size
    → size ≤ 2097152 → size ≤ 2 ^ plan.class
plan_room memory store of plan size is planned few =
    subst (λ c. size ≤ 2 ^ c) (sym (plan_is memory store of plan size is planned).1) (class_of-holds size few)

-- the ranges of the touches
pub range_new : (memory : FlatMemory) (store : Store) (of : Pairs) (key value : List ℕ) (plan : Plan) → IsStore memory store of
    → FitsPair key value → IsPlanOf memory plan (pair_size key value) → IsOfStore memory plan.addr (16 + length key + length value)
range_new memory store of key value plan is fits planned =
    let few = size_few key value fits in
    let room = plan_room memory store of plan (pair_size key value) is planned few.1 in
    heap_range memory store of plan.addr (16 + length key + length value) is planned.within.0
    (omega (arith, planned.within.1, room)) (omega (arith, few.1))

pub range_bucket : (memory other : FlatMemory) (store : Store) (of : Pairs) (key : List ℕ) (search : Search) → IsStore memory store of
    → IsSearch other store key search → IsOfStore memory search.bucket 8
range_bucket memory other store of key search is searched =
    subst (λ b. IsOfStore memory b 8) (sym searched.bucket)
    (bucket_range memory store of (bucket_of store.table key) is (bucket_inside memory store of key is))

-- memories may hold a store still
pub may_kept : (old new : MemoryState) → MayHoldStore old → IsKept old new store_cells → MayHoldStore new
may_kept old new may keeps = record {
  slots = subst (λ s. 386 ≤ s) (sym keeps.slots) may.slots;
  used = λ cell there. elim (keeps.used cell there) [ inl before ↦ may.used cell before | inr listed ↦ listed ];
  room = subst (λ r. r ≤ 65536) (sym keeps.room) may.room;
}

-- the key has one more pair of the class behind the put
pub more_new : (memory : FlatMemory) (store : Store) (of : Pairs) (key value : List ℕ) → IsStore memory store of → entry_for store key
    ≡ None
    → count_of (insert of key value) (pair_class key value) ≡ suc (count_of of (pair_class key value))
more_new memory store of key value is none =
    count_new of key value (entries of) (get_entry memory store of key is ∙ ap (option_map (λ (e : Entry). e.value)) none)
    (IsPermutation-refl (entries of))

-- the new block is allowed
pub allowed_new : (old : MemoryState) (key value : List ℕ) (plan : Plan) (of : Pairs) (before : ℕ) (gone : List Place) → FitsPair key value
    → (stands : Stands old of before gone) → IsPlanOf old.mem plan (pair_size key value)
    → count_of (insert of key value) (pair_class key value) ≡ suc (count_of of (pair_class key value))
    → IsAllowed plan.addr (16 + length key + length value) (gone ++ At (insert of key value) ∷ [])
allowed_new old key value plan of before gone fits stands planned more =
    let places = gone ++ At (insert of key value) ∷ [] in
    let store = stands.store in
    let class = pair_class key value in
    let keeps = keeps_more old of (insert of key value) before gone stands in
    let at = plan_is old.mem store of plan (pair_size key value) stands.stands planned in
    let room = class_of-holds (pair_size key value) (size_few key value fits).1 in
    let end = next_within old.mem store of (insert of key value) class (reach_of places).peaks stands.stands
    (class_is_listed (pair_size key value)) more (counted_behind old of (insert of key value) before gone stands) keeps.within.blocks in
    allowed_block plan.addr (16 + length key + length value) (next_at store.heap class + 2 ^ class) places (omega (arith, at.0, room)) end

-- ---- the touches

-- the first touch was made
pub keeps_first : (old one : MemoryState) (key value : List ℕ) (plan : Plan) → IsMemory one → FitsPair key value
    → IsPlanOf old.mem plan (pair_size key value) → MakesPresent old one plan.addr (16 + length key + length value)
    → ((of : Pairs) (store : Store) → IsStore old.mem store of
    → count_of (insert of key value) (pair_class key value) ≡ suc (count_of of (pair_class key value)))
    → KeepsMore old one key value
keeps_first old one key value plan sound fits planned makes more of before gone stands =
    keeps_touched old one plan.addr (16 + length key + length value) stands.store of before _ sound makes
    (allowed_new old key value plan of before gone fits stands planned (more of stands.store stands.stands))
    (keeps_more old of (insert of key value) before gone stands)

-- it was refused
pub failed_first : (old new : MemoryState) (key value : List ℕ) (plan : Plan) (at : ℕ) → IsMemory old → FitsPair key value
    → IsPlanOf old.mem plan (pair_size key value) → LacksStorePage old new plan.addr (16 + length key + length value) at
    → ((of : Pairs) (store : Store) → IsStore old.mem store of
    → count_of (insert of key value) (pair_class key value) ≡ suc (count_of of (pair_class key value)))
    → ((store : Store) (of : Pairs) → IsStore old.mem store of → put_at store key value (entry_for store key)
    ≡ next_at store.heap (pair_class key value))
    → PlaceFails old new key value at
failed_first old new key value plan at sound fits planned lacks more place =
    let size = 16 + length key + length value in
    fails_by old new key value at lacks.rose lacks.told (alike_same old.mem new.mem lacks.mem)
    (λ of before gone stands. keeps_lacking old new plan.addr size at stands.store of before _ sound lacks
    (range_new old.mem stands.store of key value plan stands.stands fits planned)
    (allowed_new old key value plan of before gone fits stands planned (more of stands.store stands.stands))
    (keeps_more old of (insert of key value) before gone stands))
    (λ store of is there.
    let meets = meets_range plan.addr size lacks.page lacks.range in
    let here : put_at store key value (entry_for store key) ≡ plan.addr =
    place store of is ∙ sym (plan_is old.mem store of plan (pair_size key value) is planned).0 in
    absent_not (get old.mem.present lacks.page) lacks.absent
    (subst (λ m. IsSome (get m.present lacks.page)) lacks.mem
    (subst (λ a. ArePresent new.mem a (pair_size key value)) here there.block lacks.page meets.0 meets.1)))
    (λ store of is page there absent. absurd (absent_not (get old.mem.present page) absent
    (subst (λ m. IsSome (get m.present page)) lacks.mem there)))

-- the pages that the first touch adds
pub adds_first : (old one : MemoryState) (key value : List ℕ) (plan : Plan) → IsPlanOf old.mem plan (pair_size key value)
    → MakesPresent old one plan.addr (16 + length key + length value)
    → ((store : Store) (of : Pairs) → IsStore old.mem store of → put_at store key value (entry_for store key)
    ≡ next_at store.heap (pair_class key value))
    → (store : Store) (of : Pairs) → IsStore old.mem store of → AddsOnly old one (MeetsBlock store key value)
adds_first old one key value plan planned makes place store of is page there absent =
    let here : put_at store key value (entry_for store key) ≡ plan.addr =
    place store of is ∙ sym (plan_is old.mem store of plan (pair_size key value) is planned).0 in
    elim (touched_page old.mem plan.addr (16 + length key + length value) page (subst (λ m. IsSome (get m.present page)) makes.mem there)) [
      | inl before ↦ absurd (absent_not (get old.mem.present page) absent before)
      | inr inside ↦ subst (λ a. IsInRange page a (pair_size key value)) (sym here) inside
    ]

-- where no entry was found the pair goes into the next block
pub place_new : (store : Store) (key value : List ℕ) → entry_for store key ≡ None
    → put_at store key value (entry_for store key) ≡ next_at store.heap (pair_class key value)
place_new store key value none = ap (put_at store key value) none

-- the bucket's touch was refused
pub failed_bucket : (old one new : MemoryState) (key value : List ℕ) (plan : Plan) (search : Search) (at : ℕ) → IsMemory one
    → FitsPair key value → IsPlanOf old.mem plan (pair_size key value)
    → MakesPresent old one plan.addr (16 + length key + length value) → LacksStorePage one new search.bucket 8 at
    → old.refused ≤ one.refused
    → ((store : Store) (of : Pairs) → IsStore old.mem store of → LacksKey old.mem store key search)
    → PlaceFails old new key value at
failed_bucket old one new key value plan search at sound fits planned makes lacks counted searched =
    let size = 16 + length key + length value in
    let first = alike_present old one plan.addr size makes in
    let second = alike_same one.mem new.mem lacks.mem in
    fails_by old new key value at (omega (arith, lacks.rose, counted)) lacks.told (alike_on old.mem one.mem new.mem first second)
    (λ of before gone stands.
    let lack = searched stands.store of stands.stands in
    let then = store_alike old.mem one.mem stands.store of first stands.stands in
    let low = bucket_between one.mem stands.store of key then in
    keeps_lacking one new search.bucket 8 at stands.store of before _ sound lacks
    (range_bucket one.mem old.mem stands.store of key search then lack.is)
    (allowed_below search.bucket 8 (gone ++ At (insert of key value) ∷ []) (omega (arith, lack.is.bucket, low.1)))
    (keeps_first old one key value plan sound fits planned makes
    (λ of store is. more_new old.mem store of key value is (searched store of is).none) of before gone stands))
    (λ store of is there.
    let meets = meets_range search.bucket 8 lacks.page lacks.range in
    absent_not (get one.mem.present lacks.page) lacks.absent
    (subst (λ m. IsSome (get m.present lacks.page)) lacks.mem
    (subst (λ a. ArePresent new.mem a 8) (sym (searched store of is).is.bucket) there.bucket lacks.page meets.0 meets.1)))
    (λ store of is page there absent.
    adds_first old one key value plan planned makes (λ s o i. place_new s key value (searched s o i).none) store of is page
    (subst (λ m. IsSome (get m.present page)) lacks.mem there) absent)

-- all touches of a pair of a new key were made
pub record NewTouches (old one two ready : MemoryState) (plan : Plan) (bucket size : ℕ) : Type 0 where
  pub first : MakesPresent old one plan.addr size
  pub second : MakesPresent one two bucket 8
  pub third : MakesReady two ready header_at 4096

-- so what is stored to may be
pub ready_new : (old one two ready : MemoryState) (store : Store) (of : Pairs) (key value : List ℕ) (plan : Plan) (bucket : ℕ)
    → NewTouches old one two ready plan bucket (16 + length key + length value)
    → FitsPair key value → IsStore old.mem store of → IsPlanOf old.mem plan (pair_size key value) → bucket + 8 ≤ heap_at
    → IsReadyForNew ready plan bucket (pair_size key value)
ready_new old one two ready store of key value plan bucket touches fits is planned low =
    let few = size_few key value fits in
    let size = pair_size key value in
    let block : IsReady ready plan.addr size =
    λ page inside. touches.third.keeps page (touches.second.keeps page (touches.first.ready page inside)) in
    let half : 2 ^ (plan.class - 1) ≤ size = subst (λ c. 2 ^ (c - 1) ≤ size)
    (sym (plan_is old.mem store of plan size is planned).1) (class_half size few.0 few.1) in
    let room = plan_room old.mem store of plan size is planned few.1 in
    record {
      block = block;
      half = ready_part ready plan.addr size plan.addr (2 ^ (plan.class - 1)) (omega arith) (omega (arith, half)) block;
      link = λ page inside. touches.third.keeps page (touches.second.ready page inside);
      header = touches.third.ready;
      low = (omega (arith, planned.within.1, room), omega (arith, low));
    }

-- and the plan holds still
pub planned_new : (old ready : MemoryState) (store : Store) (of : Pairs) (plan : Plan) (size : ℕ) → IsStore old.mem store of
    → ReadsAlike old.mem ready.mem → MayHoldStore ready → IsPlanOf old.mem plan size → IsPlanned ready plan
planned_new old ready store of plan size is alike may planned =
    let at = plan_is old.mem store of plan size is planned in
    record {
      room = may.room;
      heap = store.heap;
      is = (store_alike old.mem ready.mem store of alike is).heap;
      class = subst (Contains classes) (sym at.1) (class_is_listed size);
      given = planned.given store.heap is.heap ∙ ap (plan_for store.heap) (sym at.1);
    }

-- the reads are the same behind the touches
pub alike_new : (old one two ready : MemoryState) (plan : Plan) (bucket size : ℕ) → NewTouches old one two ready plan bucket size
    → ReadsAlike old.mem ready.mem
alike_new old one two ready plan bucket size touches =
    alike_on old.mem one.mem ready.mem (alike_present old one plan.addr size touches.first)
    (alike_on one.mem two.mem ready.mem (alike_present one two bucket 8 touches.second) (alike_same two.mem ready.mem touches.third.mem))

-- ---- the stores

-- what the four stores of a pair of a new key leave, one after another
pub record NewStores (m0 m1 m2 m3 m4 : FlatMemory) (plan : Plan) (search : Search) (key value : List ℕ) : Type 0 where
  pub commit : CommitsIn m0 m1
  pub pair : StoresIn m1 m2 plan.addr (pair_size key value)
  pub link : StoresIn m2 m3 search.bucket 8
  pub count : StoresIn m3 m4 pairs_field 8
  pub holds : HoldsPair m2 plan.addr search.first key value
  pub linked : word_at m3 search.bucket ≡ plan.addr
  pub counted : word_at m4 pairs_field ≡ search.head.pairs + 1

pub new_stores : (ready : MemoryState) (plan : Plan) (search : Search) (key value : List ℕ) → IsMemory ready → FitsPair key value
    → Contains classes plan.class → IsReadyForNew ready plan search.bucket (pair_size key value) → plan.addr ≤ heap_end
    → search.first < 2 ^ 64 → search.head.pairs < 2 ^ 48
    → NewStores ready.mem (commit_store ready plan).mem
    (putting (commit_store ready plan).mem plan.addr (pair_bytes search.first key value))
    (putting (putting (commit_store ready plan).mem plan.addr (pair_bytes search.first key value)) search.bucket (big_bytes 8 plan.addr))
    (new_stored ready plan search key value).mem plan search key value
new_stores ready plan search key value sound fits in_classes may low small few =
    let size = pair_size key value in
    let bytes = pair_bytes search.first key value in
    let m0 = ready.mem in
    let m1 = (commit_store ready plan).mem in
    let m2 = putting m1 plan.addr bytes in
    let m3 = putting m2 search.bucket (big_bytes 8 plan.addr) in
    let m4 = putting m3 pairs_field (big_bytes 8 (search.head.pairs + 1)) in
    let commit = commits_in ready plan sound in_classes may.header in
    let s1 = commit.stores in
    let f1 = full_then m0 m1 commit.field 8 plan.addr size s1 (full_from_ready ready plan.addr size sound may.block) in
    let count = pair_bytes-size search.first key value in
    let s2 : StoresIn m1 m2 plan.addr size = subst (λ n. StoresIn m1 m2 plan.addr n) count
    (stores_in m1 plan.addr bytes (subst (λ n. AreFullPages m1.present plan.addr n) (sym count) f1)) in
    let f2 = full_then m1 m2 plan.addr size search.bucket 8 s2
    (full_then m0 m1 commit.field 8 search.bucket 8 s1 (full_from_ready ready search.bucket 8 sound may.link)) in
    let s3 : StoresIn m2 m3 search.bucket 8 = stores_in m2 search.bucket (big_bytes 8 plan.addr) f2 in
    let g0 = full_from_ready ready pairs_field 8 sound
    (ready_part ready header_at 4096 pairs_field 8 (omega arith) (omega arith) may.header) in
    let f3 = full_then m2 m3 search.bucket 8 pairs_field 8 s3
    (full_then m1 m2 plan.addr size pairs_field 8 s2 (full_then m0 m1 commit.field 8 pairs_field 8 s1 g0)) in
    record {
      commit = commit;
      pair = s2;
      link = s3;
      count = stores_in m3 pairs_field (big_bytes 8 (search.head.pairs + 1)) f3;
      holds = holds_pair m1 plan.addr search.first key value f1 fits.0 fits.1 small;
      linked = word_stored m2 search.bucket plan.addr f2 (omega (arith, low));
      counted = word_stored m3 pairs_field (search.head.pairs + 1) f3 (omega (arith, few));
    }

-- each store has the pair
puts_pair : (old ready : MemoryState) (m1 m2 m3 m4 : FlatMemory) (key value : List ℕ) (plan : Plan) (search : Search) (store : Store)
    (of : Pairs) → FitsPair key value → IsPlanOf old.mem plan (pair_size key value) → ReadsAlike old.mem ready.mem
    → NewStores ready.mem m1 m2 m3 m4 plan search key value
    → ((heap : Heap) → IsHeap ready.mem heap → plan ≡ plan_for heap plan.class → IsHeap m1 (committed heap plan.class))
    → LacksKey old.mem store key search → IsStore old.mem store of → IsStore m4 (put_in store key value) (insert of key value)
puts_pair old ready m1 m2 m3 m4 key value plan search store of fits planned alike stores heap lack is =
    let size = pair_size key value in
    let class = pair_class key value in
    let at = plan_is old.mem store of plan size is planned in
    let then = store_alike old.mem ready.mem store of alike is in
    let given : plan ≡ plan_for store.heap plan.class = planned.given store.heap is.heap ∙ ap (plan_for store.heap) (sym at.1) in
    let bucket : search.bucket ≡ bucket_at store.table key = lack.is.bucket in
    let first : search.first ≡ word_at ready.mem (bucket_at store.table key) =
    lack.is.first ∙ sym (ap (big_number 8) (alike.bytes search.bucket 8)) ∙ ap (word_at ready.mem) bucket in
    subst (λ s. IsStore m4 s (insert of key value)) (sym (ap (put_by store key value) lack.none))
    (new_makes ready.mem m1 m2 m3 m4 store of key value stores.commit.field search.first search.head.pairs then lack.none fits
    stores.commit.stores stores.commit.below
    (subst (λ a. StoresIn m1 m2 a size) at.0 stores.pair)
    (subst (λ b. StoresIn m2 m3 b 8) bucket stores.link) stores.count
    (subst (λ c. IsHeap m1 (committed store.heap c)) at.1 (heap store.heap then.heap given))
    (subst (λ a. HoldsPair m2 a search.first key value) at.0 stores.holds)
    (sym (ap (word_at m3) bucket) ∙ stores.linked ∙ at.0)
    stores.counted first lack.is.head.pairs)

-- the put was made
pub placed_new : (old one two ready new : MemoryState) (m1 m2 m3 : FlatMemory) (key value : List ℕ) (plan : Plan) (search : Search)
    → IsMemory one → IsMemory two → FitsPair key value → IsPlanOf old.mem plan (pair_size key value)
    → NewTouches old one two ready plan search.bucket (16 + length key + length value)
    → NewStores ready.mem m1 m2 m3 new.mem plan search key value
    → ((heap : Heap) → IsHeap ready.mem heap → plan ≡ plan_for heap plan.class → IsHeap m1 (committed heap plan.class))
    → new.most ≡ ready.most
    → ((store : Store) (of : Pairs) → IsStore old.mem store of → LacksKey old.mem store key search)
    → Places old new key value
placed_new old one two ready new m1 m2 m3 key value plan search sound_one sound_two fits planned touches stores heap most searched =
    let size = 16 + length key + length value in
    let alike = alike_new old one two ready plan search.bucket size touches in
    places_by old ready new key value
    (λ store of is. puts_pair old ready m1 m2 m3 new.mem key value plan search store of fits planned alike stores heap
    (searched store of is) is)
    (λ of before gone stands.
    let places = gone ++ At (insert of key value) ∷ [] in
    let lack = searched stands.store of stands.stands in
    let low = bucket_between old.mem stands.store of key stands.stands in
    keeps_ready two ready header_at 4096 stands.store of before places touches.third
    (keeps_touched one two search.bucket 8 stands.store of before places sound_two touches.second
    (allowed_below search.bucket 8 places (omega (arith, lack.is.bucket, low.1)))
    (keeps_first old one key value plan sound_one fits planned touches.first
    (λ of store is. more_new old.mem store of key value is (searched store of is).none) of before gone stands)))
    (λ of before gone stands.
    let places = gone ++ At (insert of key value) ∷ [] in
    let lack = searched stands.store of stands.stands in
    subst (λ (s : Store). AllZip (λ class peak. blocks_in s.heap class ≤ peak) classes (reach_of places).peaks)
    (sym (ap (put_by stands.store key value) lack.none))
    (committed_within old.mem stands.store of (insert of key value) (pair_class key value) (reach_of places).peaks stands.stands
    (class_is_listed (pair_size key value)) (more_new old.mem stands.store of key value stands.stands lack.none)
    (counted_behind old of (insert of key value) before gone stands)
    (keeps_more old of (insert of key value) before gone stands).within.blocks))
    (λ page. stores.count.pages page ∙ stores.link.pages page ∙ stores.pair.pages page ∙ stores.commit.stores.pages page)
    most
    (λ store of is page there absent.
    let before : IsSome (get two.mem.present page) = subst (λ m. IsSome (get m.present page)) touches.third.mem there in
    elim (touched_page one.mem search.bucket 8 page (subst (λ m. IsSome (get m.present page)) touches.second.mem before)) [
      | inl first ↦ inl (adds_first old one key value plan planned touches.first
          (λ s o i. place_new s key value (searched s o i).none) store of is page first absent)
      | inr inside ↦ inr (subst (λ b. IsInRange page b 8) (searched store of is).is.bucket inside)
    ])

-- the first word of a chain is small
pub first_low : (memory : FlatMemory) (store : Store) (of : Pairs) (key : List ℕ) → IsStore memory store of
    → word_at memory (bucket_at store.table key) < 2 ^ 64
first_low memory store of key is =
    let Lies : Entry → Type 0 = λ e. LiesIn heap_at store.heap.top (entry_block e) in
    let Small : Entry → Type 0 = λ e. e.at < 2 ^ 64 in
    let bucket = bucket_of store.table key in
    let lies = all_map (LiesIn heap_at store.heap.top) entry_block (entries_of store.table)
    (all_permuted (LiesIn heap_at store.heap.top) store.heap.used (map entry_block (entries_of store.table)) is.used
    (all_left (LiesIn heap_at store.heap.top) store.heap.used _ (blocks_within memory store.heap is.heap))) in
    let small = all_mono Lies Small (entries_of store.table) (λ e lie. omega (arith, lie.1, is.heap.within)) lies in
    first_small memory (bucket_at store.table key) (2 ^ 64) (map (λ (e : Entry). e.at) (chain_of store.table bucket)) (omega arith)
    (is.table.linked bucket (bucket_inside memory store of key is))
    (map_all (λ at. at < 2 ^ 64) (λ (e : Entry). e.at) (chain_of store.table bucket) (chain_part Small store.table.chains bucket small))

-- there are not too many pairs to count one more
pub pairs_few : (memory : FlatMemory) (store : Store) (of : Pairs) (key : List ℕ) (search : Search) → IsStore memory store of
    → LacksKey memory store key search → search.head.pairs < 2 ^ 48
pairs_few memory store of key search is lack = omega (arith, lack.is.head.pairs, entries_few memory store of is)

-- the put of a new key, all in all
pub made_new : (old one two ready : MemoryState) (store : Store) (of : Pairs) (key value : List ℕ) (plan : Plan) (search : Search)
    → IsMemory one → IsMemory two → IsMemory ready → MayHoldStore ready → FitsPair key value → IsStore old.mem store of
    → IsPlanOf old.mem plan (pair_size key value)
    → NewTouches old one two ready plan search.bucket (16 + length key + length value)
    → ((store : Store) (of : Pairs) → IsStore old.mem store of → LacksKey old.mem store key search)
    → Places old (new_stored ready plan search key value) key value
made_new old one two ready store of key value plan search sound_one sound_two sound may fits is planned touches searched =
    let size = pair_size key value in
    let lack = searched store of is in
    let low = bucket_between old.mem store of key is in
    let at = plan_is old.mem store of plan size is planned in
    let in_classes : Contains classes plan.class = subst (Contains classes) (sym at.1) (class_is_listed size) in
    let is_ready = ready_new old one two ready store of key value plan search.bucket touches fits is planned
    (omega (arith, lack.is.bucket, low.1)) in
    let first = first_low old.mem store of key is in
    let same : search.first ≡ word_at old.mem (bucket_at store.table key) = lack.is.first ∙ ap (word_at old.mem) lack.is.bucket in
    placed_new old one two ready
    (new_stored ready plan search key value) _ _ _ key value plan search sound_one sound_two fits planned touches
    (new_stores ready plan search key value sound fits in_classes is_ready (omega (arith, planned.within.1)) (omega (arith, first, same))
    (pairs_few old.mem store of key search is lack))
    (λ heap is_heap given. commits ready heap plan sound may.room is_heap in_classes given is_ready.header is_ready.half)
    (commit_ready ready plan).1 searched
