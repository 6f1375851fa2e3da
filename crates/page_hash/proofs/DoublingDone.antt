-- A doubling that was made, and one that was refused.
use Rattle.std.proofs.Common.{◌≡◌, ℕ, ◌+◌, ◌-◌, ◌*◌, ◌/◌, ◌<◌, ◌≤◌, max, min, eqb, List, [], ◌∷◌, ◌++◌, length, map, Option, Some, None, IsSome, is_some, refl, sym, ◌∙◌, ap, subst, arith, inl, inr, Contains}
use Rattle.std.specs.Prelude.{IsNone, unwrap_or}
use Rattle.std.specs.FinMap.{get, len, len-entries, entries}
use Rattle.std.proofs.lemmas.Bool.{cases_Bool, cond-true, cond-false, ne_eqb, false≢true}
use Rattle.std.proofs.lemmas.List.{length-map}
use Rattle.std.specs.List.{range_with_len}
use Rattle.std.proofs.lemmas.List.FromFn.{length-range_with_len}
use Rattle.std.proofs.lemmas.List.Sorted.{length_permutation}
use Rattle.vm_base.specs.Places.{page_of, page_count}
use Rattle.vm_base.specs.FlatMemory.{FlatMemory, bytes_at}
use Rattle.vm_base.specs.FlatStep.{with_bytes, is_beyond}
use Rattle.vm_base.specs.FlatLaws.{AreFullPages, unmapped}
use Rattle.vm_base.specs.MemoryState.{MemoryState, IsMemory, IsKept, own_of}
use Rattle.vm_base.specs.MemoryCalls.{IsInRange, touched}
use Rattle.vm_base.proofs.FlatLaws.{bytes_at-with_pages, get-unmapped, is_some-with_bytes}
use Rattle.vm_base.proofs.OwnFrames.{kept-with_pages}
use Rattle.store_meaning.specs.Layout.{header_at, heap_at, array_field, store_area, array_pages, heap_area, store_cells}
use Rattle.store_meaning.specs.HeapLayout.{ArePresent}
use Rattle.store_meaning.specs.HashLayout.{Store, Pairs, IsStore, StandsForMap, other_array, entry_pair, entries_of}
use Rattle.store_meaning.specs.StoreSteps.{doubled, relinked_chain}
use Rattle.store_meaning.specs.Reach.{Place, At, reach_of, reach_step}
use Rattle.store_meaning.specs.Standing.{MayHoldStore, IsStanding, StaysStanding, KeepsWithin, Follows}
use Rattle.store_meaning.proofs.HeapSteps.{KeepsPages}
use Rattle.store_meaning.proofs.Reaching.{reach_of-more, KeepsWithin-more}
use Rattle.page_hash.specs.declared.arrays.Arrays.{Arrays}
use Rattle.page_hash.specs.Relinking.{MayRelink, KeepsPlace}
use Rattle.page_hash.specs.ArrayRelinking.{IsOldTable, RelinksPart}
use Rattle.page_hash.specs.Doubling.{IsDue, DoublesArray, LeavesSingle, AddsArray, LacksArray, MayMoveTo, MovesTo, areas_with_both}
use Rattle.page_hash.proofs.Cleared.{may_kept}
use Rattle.page_hash.proofs.BlockLinks.{full_present}
use Rattle.page_hash.proofs.PartRelinks.{blocks_part}
use Rattle.page_hash.proofs.BothAreas.{old_listed, others_listed}
use Rattle.page_hash.proofs.AddingArray.{due_facts, due_arrays}
use Rattle.page_hash.proofs.OldTable.{old_table}
use Rattle.page_hash.proofs.DoubledStore.{fields_of, doubled_is}
use Rattle.page_hash.proofs.DoublingReach.{both_own, new_or_old}

-- ---- what the steps need

added_pages : (old added : MemoryState) (arrays : Arrays) → AddsArray old added arrays → KeepsPages old.mem added.mem
added_pages old added arrays adds page there =
    ap (λ p. is_some (get p page)) adds.present
    ∙ kept-with_pages (page_count arrays.new (16 * arrays.buckets)) old.mem.present (page_of arrays.new) page there

added_same : (old added : MemoryState) (arrays : Arrays) → AddsArray old added arrays → (other size : ℕ)
    → bytes_at added.mem.present other size ≡ bytes_at old.mem.present other size
added_same old added arrays adds other size =
    ap (λ p. bytes_at p other size) adds.present
    ∙ bytes_at-with_pages old.mem.present (page_of arrays.new) (page_count arrays.new (16 * arrays.buckets)) other size

pub added_may : (old added : MemoryState) (arrays : Arrays) (store : Store) (pairs : Pairs) → IsDue old.mem arrays store pairs
    → MayHoldStore old → IsKept old added store_cells → AddsArray old added arrays → MayRelink added
added_may old added arrays store pairs due may kept adds = record {
  sound = kept.after;
  may = may_kept old added kept may;
  heap = subst (λ a. Contains a heap_area) (sym adds.areas)
      (others_listed arrays.old arrays.new (arrays.buckets / 512) (arrays.buckets / 256)
      (due_facts old.mem arrays store pairs due).regions).1;
}

pub added_table : (old added : MemoryState) (arrays : Arrays) (store : Store) (pairs : Pairs) → IsDue old.mem arrays store pairs
    → AddsArray old added arrays → IsOldTable added.mem arrays store.table 0
added_table old added arrays store pairs due adds =
    let facts = due_facts old.mem arrays store pairs due in
    let pages : arrays.buckets / 512 ≡ array_pages arrays.buckets = omega (arith, facts.whole) in
    old_table old.mem added.mem arrays store pairs due
    (subst (λ a. Contains a (store_area arrays.old (array_pages arrays.buckets))) (sym adds.areas)
    (subst (λ p. Contains (areas_with_both arrays) (store_area arrays.old p)) pages
    (old_listed arrays.old arrays.new (arrays.buckets / 512) (arrays.buckets / 256) facts.regions)))
    (added_pages old added arrays adds) (added_same old added arrays adds)

relinked_header : (old added relinked : MemoryState) (arrays : Arrays) (store : Store) (pairs : Pairs) → IsDue old.mem arrays store pairs
    → AddsArray old added arrays → KeepsPlace added relinked → ArePresent relinked.mem header_at 4096
relinked_header old added relinked arrays store pairs due adds keeps page low high =
    keeps.pages page ∙ added_pages old added arrays adds page (due.is.heap.header page low high)

pub relinked_may : (old added relinked : MemoryState) (arrays : Arrays) (store : Store) (pairs : Pairs) → IsDue old.mem arrays store pairs
    → AddsArray old added arrays → KeepsPlace added relinked → MayMoveTo relinked.mem arrays
relinked_may old added relinked arrays store pairs due adds keeps =
    let facts = due_facts old.mem arrays store pairs due in
    record {
      regions = due_arrays arrays facts;
      areas = keeps.areas ∙ adds.areas;
      header = relinked_header old added relinked arrays store pairs due adds keeps;
      pages = facts.part;
      whole = facts.whole;
    }

-- ---- made

pub doubling_made : (old added relinked new : MemoryState) (arrays : Arrays) (store : Store) (pairs : Pairs)
    → IsDue old.mem arrays store pairs
    → AddsArray old added arrays → RelinksPart added.mem relinked.mem arrays store.table 0 arrays.buckets → KeepsPlace added relinked
    → MovesTo relinked new arrays → DoublesArray old new store pairs
doubling_made old added relinked new arrays store pairs due adds part keeps moves =
    let table = added_table old added arrays store pairs due adds in
    let full : AreFullPages relinked.mem.present array_field 24 =
    full_present relinked.mem array_field 24 keeps.kept.after.flat (omega arith)
    (λ page low high. relinked_header old added relinked arrays store pairs due adds keeps page (omega (arith, low))
    (omega (arith, high))) in
    record {
      is = doubled_is old.mem added.mem relinked.mem new.mem arrays store pairs (record {
        due = due;
        same = added_same old added arrays adds;
        added = added_pages old added arrays adds;
        part = part;
        held = table.blocks;
        blocks = blocks_part added.mem relinked.mem arrays store.table 0 arrays.buckets table.regions (omega arith)
            (omega arith) table.blocks
            (λ page there. keeps.pages page ∙ there) part.beside;
        kept = λ page there. keeps.pages page ∙ there;
        full = full;
        areas = moves.areas;
        present = moves.present;
      });
      pages = λ page there absent.
          let stored : IsSome (get (with_bytes relinked.mem.present array_field (fields_of arrays)) page) =
          left page (subst (λ p. IsSome (get p page)) moves.present there) in
          let relinked_there : IsSome (get relinked.mem.present page) =
          sym (is_some-with_bytes relinked.mem.present array_field (fields_of arrays)
          (λ q inside. full_is_some (get relinked.mem.present q) (full q inside)) page) ∙ stored in
          let added_there : IsSome (get (touched old.mem arrays.new (16 * arrays.buckets)).present page) =
          subst (λ p. IsSome (get p page)) adds.present (sym (keeps.pages page) ∙ relinked_there) in
          elim (new_or_old old.mem arrays.new (16 * arrays.buckets) page added_there) [
            | inl inside ↦ subst (λ n. IsInRange page (other_array store.table.array) (16 * n)) due.buckets
                (subst (λ a. IsInRange page a (16 * arrays.buckets)) due.new inside)
            | inr before ↦ absurd (none_there (get old.mem.present page) absent before)
          ];
    }
  where
    left : (page : ℕ) → IsSome (get (unmapped (with_bytes relinked.mem.present array_field (fields_of arrays))
        (arrays.old / 4096) (arrays.buckets / 512)) page)
        → IsSome (get (with_bytes relinked.mem.present array_field (fields_of arrays)) page)
    left page there = elim (cases_Bool (is_beyond (arrays.old / 4096) (arrays.buckets / 512) page)) [
      | inl out ↦
          sym (ap is_some (get-unmapped (with_bytes relinked.mem.present array_field (fields_of arrays)) (arrays.old / 4096)
          (arrays.buckets / 512) page ∙ cond-true (is_beyond (arrays.old / 4096) (arrays.buckets / 512) page) _ None out)) ∙ there
      | inr inside ↦ absurd (false≢true
          (sym (ap is_some (get-unmapped (with_bytes relinked.mem.present array_field (fields_of arrays)) (arrays.old / 4096)
          (arrays.buckets / 512) page ∙ cond-false (is_beyond (arrays.old / 4096) (arrays.buckets / 512) page) _ None inside)) ∙ there))
    ]

    full_is_some : (page : Option (List ℕ)) → length (unwrap_or page []) ≡ 4096 → IsSome page
    full_is_some None full = absurd (omega (arith, full))
    full_is_some (Some bytes) full = refl

    none_there : (page : Option (List ℕ)) → IsNone page → IsSome page → ⊥
    none_there None none some = false≢true some
    none_there (Some bytes) none some = false≢true (sym none)

-- ---- refused

pub doubling_lacks : (old new : MemoryState) (arrays : Arrays) (store : Store) (pairs : Pairs) → IsDue old.mem arrays store pairs
    → LacksArray old new arrays → LeavesSingle old new store
doubling_lacks old new arrays store pairs due lacks = record {
  mem = lacks.mem;
  rose = lacks.rose;
  reached = subst (λ a. own_of (touched old.mem a (min (16 * length store.table.chains) 4194304)) ≤ new.most) due.new
      (subst (λ n. own_of (touched old.mem arrays.new (min (16 * n) 4194304)) ≤ new.most) due.buckets lacks.reached);
}

-- ---- the reach

-- there are more pairs than buckets
more_pairs : (memory : FlatMemory) (arrays : Arrays) (store : Store) (pairs : Pairs) → IsDue memory arrays store pairs
    → arrays.buckets < len pairs
more_pairs memory arrays store pairs due =
    let size : len pairs ≡ length (entries_of store.table) =
    len-entries pairs ∙ length_permutation (map entry_pair (entries_of store.table)) (entries pairs) due.is.pairs
    ∙ length-map (entries_of store.table) entry_pair in
    omega (arith, size, due.crowded.pairs, due.buckets)

bound_place : (state : MemoryState) (arrays : Arrays) (store : Store) (pairs : Pairs) (gone : List Place) → IsMemory state
    → IsDue state.mem arrays store pairs → KeepsWithin state store (reach_of gone)
    → own_of (touched state.mem arrays.new (16 * arrays.buckets)) ≤ (reach_of (gone ++ At pairs ∷ [])).bound
bound_place state arrays store pairs gone sound due within =
    let reach = reach_step (reach_of gone) (At pairs) in
    let more : arrays.buckets < reach.pairs = above (len pairs) (reach_of gone).pairs (more_pairs state.mem arrays store pairs due) in
    let own = both_own state arrays store pairs reach sound.flat due (KeepsWithin-more state store (reach_of gone) pairs within) more in
    subst (λ r. own_of (touched state.mem arrays.new (16 * arrays.buckets)) ≤ r.bound) (sym (reach_of-more gone (At pairs)))
    (under (reach_of gone).bound _ _ own)
  where
    above : (one two : ℕ) → arrays.buckets < one → arrays.buckets < max one two
    above one two less = omega (arith, less)

    under : (bound frames own : ℕ) → own ≤ frames → own ≤ max bound frames
    under bound frames own less = omega (arith, less)

-- ---- what follows

-- a page of the new array lies below the heap
new_below : (memory : FlatMemory) (arrays : Arrays) (store : Store) (pairs : Pairs) (page : ℕ) → IsDue memory arrays store pairs
    → IsInRange page (other_array store.table.array) (16 * length store.table.chains) → heap_at ≤ 4096 * page → ⊥
new_below memory arrays store pairs page due inside high =
    let facts = due_facts memory arrays store pairs due in
    let here : IsInRange page arrays.new (16 * arrays.buckets) =
    subst (λ n. IsInRange page arrays.new (16 * n)) (sym due.buckets)
    (subst (λ a. IsInRange page a (16 * length store.table.chains)) (sym due.new) inside) in
    let count : page_count arrays.new (16 * arrays.buckets) ≡ page_of (arrays.new + 16 * arrays.buckets - 1) + 1 - page_of arrays.new =
    cond-false (eqb (16 * arrays.buckets) 0) 0 _ (ne_eqb (16 * arrays.buckets) 0 (λ none. omega (arith, none, facts.whole, facts.some))) in
    elim facts.regions [
      | inl up ↦ omega (arith, up.1, here.1, count, facts.whole, facts.few, facts.some, high)
      | inr down ↦ omega (arith, down.1, here.1, count, facts.whole, facts.few, facts.some, high)
    ]

-- the store behind a doubling keeps within the reach of one place more
doubled_within : (old new : MemoryState) (arrays : Arrays) (store : Store) (pairs : Pairs) (gone : List Place)
    → IsDue old.mem arrays store pairs
    → DoublesArray old new store pairs → KeepsWithin old store (reach_of gone)
    → KeepsWithin new (doubled store) (reach_of (gone ++ At pairs ∷ []))
doubled_within old new arrays store pairs gone due made within =
    let reach = reach_step (reach_of gone) (At pairs) in
    let more = KeepsWithin-more old store (reach_of gone) pairs within in
    let size : length (doubled store).table.chains ≡ 2 * length store.table.chains =
    length-map (range_with_len 0 (2 * length store.table.chains)) (relinked_chain store.table)
    ∙ length-range_with_len 0 (2 * length store.table.chains) in
    let some : length store.table.chains < reach.pairs =
    above (len pairs) (reach_of gone).pairs (subst (λ n. n < len pairs) due.buckets (more_pairs old.mem arrays store pairs due)) in
    subst (KeepsWithin new (doubled store)) (sym (reach_of-more gone (At pairs))) (record {
      blocks = more.blocks;
      pages = λ page there high. more.pages page (was_there page there high (get old.mem.present page) refl) high;
      buckets = inr (omega (arith, size, some));
    })
  where
    above : (one two : ℕ) → length store.table.chains < one → length store.table.chains < max one two
    above one two less = omega (arith, less)

    was_there : (page : ℕ) → IsSome (get new.mem.present page) → heap_at ≤ 4096 * page → (found : Option (List ℕ))
        → get old.mem.present page ≡ found
        → IsSome (get old.mem.present page)
    was_there page there high None is =
        absurd (new_below old.mem arrays store pairs page due (made.pages page there (ap is_some is)) high)
    was_there page there high (Some bytes) is = ap is_some is

pub made_follows : (old new : MemoryState) (arrays : Arrays) → IsMemory old
    → ((store : Store) (pairs : Pairs) → IsStore old.mem store pairs → IsDue old.mem arrays store pairs)
    → ((store : Store) (pairs : Pairs) → IsStore old.mem store pairs → DoublesArray old new store pairs)
    → new.most ≤ max old.most (own_of (touched old.mem arrays.new (16 * arrays.buckets)))
    → Follows old new (λ pairs. pairs) (λ pairs. At pairs ∷ [])
made_follows old new arrays sound due made most = record {
  map = λ pairs stands. (doubled stands.0, (made stands.0 pairs stands.1).is);
  within = λ pairs before gone stands.
      let is = due stands.store pairs stands.stands in
      let bound = bound_place old arrays stands.store pairs gone sound is stands.within in
      let raised : (reach_of gone).bound ≤ (reach_of (gone ++ At pairs ∷ [])).bound =
      subst (λ r. (reach_of gone).bound ≤ r.bound) (sym (reach_of-more gone (At pairs))) (left_max (reach_of gone).bound _) in
      record {
        store = doubled stands.store;
        stands = (made stands.store pairs stands.stands).is;
        within = doubled_within old new arrays stands.store pairs gone is (made stands.store pairs stands.stands) stands.within;
        most = omega (arith, most, bound, raised, stands.most);
      };
}
  where
    left_max : (one two : ℕ) → one ≤ max one two
    left_max one two = omega arith

pub lacks_follows : (old new : MemoryState) (arrays : Arrays) → IsMemory old
    → ((store : Store) (pairs : Pairs) → IsStore old.mem store pairs → IsDue old.mem arrays store pairs)
    → LacksArray old new arrays → Follows old new (λ pairs. pairs) (λ pairs. At pairs ∷ [])
lacks_follows old new arrays sound due lacks = record {
  map = λ pairs stands. subst (λ m. StandsForMap m pairs) (sym lacks.mem) stands;
  within = λ pairs before gone stands.
      let bound = bound_place old arrays stands.store pairs gone sound (due stands.store pairs stands.stands) stands.within in
      let more = KeepsWithin-more old stands.store (reach_of gone) pairs stands.within in
      let raised : (reach_of gone).bound ≤ (reach_of (gone ++ At pairs ∷ [])).bound =
      subst (λ r. (reach_of gone).bound ≤ r.bound) (sym (reach_of-more gone (At pairs))) (left_max (reach_of gone).bound _) in
      record {
        store = stands.store;
        stands = subst (λ m. IsStore m stands.store pairs) (sym lacks.mem) stands.stands;
        within = subst (KeepsWithin new stands.store) (sym (reach_of-more gone (At pairs))) (record {
          blocks = more.blocks;
          pages = λ page there high. more.pages page (subst (λ (m : FlatMemory). IsSome (get m.present page)) lacks.mem there) high;
          buckets = more.buckets;
        });
        most = omega (arith, lacks.most, bound, raised, stands.most);
      };
}
  where
    left_max : (one two : ℕ) → one ≤ max one two
    left_max one two = omega arith

-- calls of a store may be made on behind it
pub doubling_stays : (old new : MemoryState) → IsStanding old → Follows old new (λ pairs. pairs) (λ pairs. At pairs ∷ [])
    → IsKept old new store_cells → StaysStanding old new
doubling_stays old new stands follows kept = record {
  standing = record { may = may_kept old new kept stands.may; pairs = stands.pairs; stands = follows.map stands.pairs stands.stands };
  keeps = kept;
}
