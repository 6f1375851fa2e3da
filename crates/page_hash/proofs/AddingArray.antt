-- The new array of a doubling: mapped and touched, or taken out again.
use Rattle.std.proofs.Common.{◌≡◌, ℕ, ◌+◌, ◌-◌, ◌*◌, ◌/◌, ◌^◌, ◌<◌, ◌≤◌, ◌⊎◌, min, eqb, cond, List, [], length, Option, Some, None, IsSome, is_some, refl, sym, ◌∙◌, ap, ap₂, subst, arith, inl, inr, Contains, pow_pos, pow_mono}
use Rattle.std.specs.FinMap.{get}
use Rattle.std.proofs.lemmas.Bool.{cases_eq, cases_lt, cond-true, cond-false, eq-eqb, ne_eqb, false≢true}
use Rattle.vm_base.specs.Places.{page_of, page_count, cell_of, cells_of_range}
use Rattle.vm_base.specs.FlatMemory.{PageMap, FlatMemory, area_of}
use Rattle.vm_base.specs.FlatStep.{with_pages, is_beyond, areas_without}
use Rattle.vm_base.specs.FlatLaws.{HasNumbersOf, IsBeyond, IsAmong, unmapped}
use Rattle.vm_base.specs.MemoryState.{MemoryState, IsMemory, IsKept, IsListed, own_of}
use Rattle.vm_base.specs.MemoryCalls.{touched}
use Rattle.vm_base.proofs.FlatAreas.{cells-of_pages, taken-none}
use Rattle.vm_base.proofs.FlatLaws.{get-unmapped, get-unmapped_beyond, get-unmapped_among, get-with_pages_beyond}
use Rattle.vm_base.proofs.NumberedMaps.{same_numbered}
use Rattle.store_meaning.specs.Layout.{array_a, array_b, array_pages, store_area, store_cells}
use Rattle.store_meaning.specs.HashLayout.{Store, Pairs}
use Rattle.store_meaning.specs.Standing.{MayHoldStore}
use Rattle.page_heap.proofs.Mapped.{mapped_by, unmapped_by}
use Rattle.page_hash.specs.declared.arrays.Arrays.{Arrays}
use Rattle.page_hash.specs.ArrayRelinking.{AreArrays}
use Rattle.page_hash.specs.Doubling.{IsDue, IsFreshArea, TouchesArea, LeavesArea, AddsArray, LacksArray, areas_with_both}
use Rattle.page_hash.proofs.StoreReads.{array_region}
use Rattle.page_hash.proofs.Cleared.{IsMapping, IsUnmapping}
use Rattle.page_hash.proofs.PresentTouch.{region_listed}
use Rattle.page_hash.proofs.BothAreas.{AreRegions, one_array, map_both, out_new, unmap_one, new_free, new_listed}

-- ---- what is due

-- where the arrays of a doubling lie, and how many pages they have
pub record DueFacts (arrays : Arrays) : Type 0 where
  pub regions : AreRegions arrays.old arrays.new
  pub part : ℕ
  pub whole : arrays.buckets ≡ 512 * part
  pub some : 0 < part
  pub few : part ≤ 16384

pub due_facts : (memory : FlatMemory) (arrays : Arrays) (store : Store) (pairs : Pairs) → IsDue memory arrays store pairs → DueFacts arrays
due_facts memory arrays store pairs due =
    let doubled = due.is.table.doubled in
    record {
      regions = elim (array_region memory store.table due.is.table) [
        | inl first ↦ inl (
          due.old ∙ first,
          due.new ∙ cond-true (eqb store.table.array array_a) array_b array_a
              (eq-eqb store.table.array array_a first),
        )
        | inr second ↦ inr (
          due.old ∙ second,
          due.new ∙ cond-false (eqb store.table.array array_a) array_b array_a
              (ne_eqb store.table.array array_a (λ same. omega (arith, same, second))),
        )
      ];
      part = 2 ^ doubled.0;
      whole = due.buckets ∙ doubled.1.buckets;
      some = pow_pos doubled.0;
      few = elim (cases_lt doubled.0 15) [
        | inl below ↦
            let low : doubled.0 ≤ 14 = omega (arith, below) in
            let small : 2 ^ doubled.0 ≤ 2 ^ 14 = pow_mono low in
            omega (arith, small)
        | inr above ↦
            let large : 2 ^ 15 ≤ 2 ^ doubled.0 = pow_mono above in
            absurd (omega (arith, large, doubled.1.buckets, due.crowded.few))
      ];
    }

pub due_arrays : (arrays : Arrays) → DueFacts arrays → AreArrays arrays
due_arrays arrays facts = record {
  regions = facts.regions;
  some = omega (arith, facts.whole, facts.some);
  few = omega (arith, facts.whole, facts.few);
  pages = facts.part;
  whole = facts.whole;
}

-- ---- the new array's area

-- the cells of a range of an array are cells of a store
array_cells_listed : (base size at n : ℕ) → (base ≡ array_a) ⊎ (base ≡ array_b) → size ≤ 134217728 → base ≤ at → at + n ≤ base + size
    → HasNumbersOf store_cells (cells_of_range at n)
array_cells_listed base size at n region few low high cell listed =
    let page = (cells-of_pages at n cell).0 listed in
    by region page.0 page.1.1 page.1.0.0 (below page.0 page.1.0.0 page.1.0.1)
  where
    below : (page : ℕ) → page_of at ≤ page → page < page_of at + page_count at n → 4096 * page < base + size
    below page above inside = elim (cases_eq n 0) [
      | inl none ↦
          let nothing : page_count at n ≡ 0 = cond-true (eqb n 0) 0 _ (eq-eqb n 0 none) in
          absurd (omega (arith, nothing, above, inside))
      | inr some ↦
          let count : page_count at n ≡ page_of (at + n - 1) + 1 - page_of at = cond-false (eqb n 0) 0 _ (ne_eqb n 0 some) in
          omega (arith, count, above, inside, high, some)
    ]

    by : (base ≡ array_a) ⊎ (base ≡ array_b) → (page : ℕ) → cell_of page ≡ cell → page_of at ≤ page → 4096 * page < base + size
        → IsListed cell store_cells
    by (inl first) page here above under =
        region_listed cell (inr (inl (omega (arith, here, above, low, first), omega (arith, here, under, first, few))))
    by (inr second) page here above under =
        region_listed cell (inr (inr (inl (omega (arith, here, above, low, second), omega (arith, here, under, second, few)))))

-- the array of a store behind the mapping
pub record MapsNew (old new : MemoryState) (arrays : Arrays) : Type 0 where
  pub areas : new.mem.areas ≡ areas_with_both arrays
  pub present : new.mem.present ≡ old.mem.present
  pub most : new.most ≡ old.most
  pub refused : new.refused ≡ old.refused

one_areas : (memory : FlatMemory) (arrays : Arrays) (store : Store) (pairs : Pairs) → IsDue memory arrays store pairs
    → memory.areas ≡ one_array arrays.old (arrays.buckets / 512)
one_areas memory arrays store pairs due =
    let facts = due_facts memory arrays store pairs due in
    let pages : array_pages (length store.table.chains) ≡ arrays.buckets / 512 = omega (arith, facts.whole, due.buckets) in
    due.is.table.areas ∙ ap₂ one_array (sym due.old) pages

pub maps_new : (old new : MemoryState) (arrays : Arrays) (store : Store) (pairs : Pairs) → IsDue old.mem arrays store pairs
    → IsMapping old new (arrays.new / 4096) (arrays.buckets / 256) → MapsNew old new arrays
maps_new old new arrays store pairs due mapping =
    let facts = due_facts old.mem arrays store pairs due in
    let made = mapped_by old new mapping.0 (arrays.new / 4096) (arrays.buckets / 256) _
    (map_both old.mem arrays.old arrays.new (arrays.buckets / 512) (arrays.buckets / 256) facts.regions
    (omega (arith, facts.whole, facts.few)) (omega (arith, facts.whole, facts.few)) (one_areas old.mem arrays store pairs due))
    mapping.1.0 mapping.1.1 in
    record {
      areas = ap (λ (s : MemoryState). s.mem.areas) made;
      present = ap (λ (s : MemoryState). s.mem.present) made;
      most = ap (λ (s : MemoryState). s.most) made;
      refused = ap (λ (s : MemoryState). s.refused) made;
    }

pub new_fresh : (old new : MemoryState) (arrays : Arrays) (store : Store) (pairs : Pairs) → IsDue old.mem arrays store pairs
    → MayHoldStore old → IsKept old new [] → MapsNew old new arrays → IsFreshArea new arrays.new (16 * arrays.buckets)
new_fresh old new arrays store pairs due may kept maps =
    let facts = due_facts old.mem arrays store pairs due in
    let region : (arrays.new ≡ array_a) ⊎ (arrays.new ≡ array_b) = elim facts.regions [ inl up ↦ inr up.1 | inr down ↦ inl down.1 ] in
    record {
      sound = kept.after;
      may = record {
        slots = omega (arith, kept.slots, may.slots);
        used = λ cell there. elim (kept.used cell there) [ inl before ↦ may.used cell before | inr never ↦ absurd (false≢true never) ];
        room = omega (arith, kept.room, may.room);
      };
      first = arrays.new / 4096;
      pages = arrays.buckets / 256;
      at = elim region [ inl first ↦ omega (arith, first) | inr second ↦ omega (arith, second) ];
      bytes = omega (arith, facts.whole);
      some = omega (arith, facts.whole, facts.some);
      area = subst (λ a. Contains a (store_area arrays.new (arrays.buckets / 256))) (sym maps.areas)
          (new_listed arrays.old arrays.new (arrays.buckets / 512) (arrays.buckets / 256) facts.regions);
      cells = λ at n low high. array_cells_listed arrays.new (16 * arrays.buckets) at n region
          (omega (arith, facts.whole, facts.few)) low high;
      low = elim region [
        | inl first ↦ omega (arith, first, facts.whole, facts.few)
        | inr second ↦ omega (arith, second, facts.whole, facts.few)
      ];
    }

-- the array was touched
pub adds_array : (old mid new : MemoryState) (arrays : Arrays) → MapsNew old mid arrays
    → TouchesArea mid new arrays.new (16 * arrays.buckets)
    → AddsArray old new arrays
adds_array old mid new arrays maps touch =
    let size : ℕ = 16 * arrays.buckets in
    let pages : PageMap → PageMap = λ p. with_pages p (page_of arrays.new) (page_count arrays.new size) in
    let own : own_of (touched mid.mem arrays.new size) ≡ own_of (touched old.mem arrays.new size) =
    ap (λ p. own_of (record { areas = []; present = pages p })) maps.present in
    record {
      areas = ap (λ (m : FlatMemory). m.areas) touch.mem ∙ maps.areas;
      present = ap (λ (m : FlatMemory). m.present) touch.mem ∙ ap pages maps.present;
      most = omega (arith, touch.most, own, maps.most);
      ready = touch.ready;
    }

-- the pages of the new array are taken out again
pages_undone : (memory : FlatMemory) (first n k : ℕ) → k ≤ n → ((page : ℕ) → IsAmong first n page → get memory.present page ≡ None)
    → unmapped (with_pages memory.present first k) first n ≡ memory.present
pages_undone memory first n k few none = same_numbered _ _ (λ q.
    get-unmapped (with_pages memory.present first k) first n q ∙ elim (cases_lt q first) [
      | inl below ↦ beyond q (inl below)
      | inr low ↦ elim (cases_lt q (first + n)) [
        | inl inside ↦ among q low inside
        | inr above ↦ beyond q (inr above)
      ]
    ])
  where
    beyond : (q : ℕ) → IsBeyond first n q
        → cond (is_beyond first n q) (get (with_pages memory.present first k) q) None ≡ get memory.present q
    beyond q out =
        sym (get-unmapped (with_pages memory.present first k) first n q)
        ∙ get-unmapped_beyond (with_pages memory.present first k) first n q out
        ∙ get-with_pages_beyond memory.present first k q (narrow q out)
      where
        narrow : (p : ℕ) → IsBeyond first n p → IsBeyond first k p
        narrow p (inl below) = inl below
        narrow p (inr above) = inr (omega (arith, above, few))

    among : (q : ℕ) → first ≤ q → q < first + n
        → cond (is_beyond first n q) (get (with_pages memory.present first k) q) None ≡ get memory.present q
    among q low high =
        sym (get-unmapped (with_pages memory.present first k) first n q)
        ∙ get-unmapped_among (with_pages memory.present first k) first n q (low, high)
        ∙ sym (none q (low, high))

-- a frame was refused for the array
pub lacks_array : (old mid left new : MemoryState) (arrays : Arrays) (store : Store) (pairs : Pairs) → IsDue old.mem arrays store pairs
    → IsMemory old → MapsNew old mid arrays → LeavesArea mid left arrays.new (16 * arrays.buckets)
    → IsUnmapping left new (arrays.new / 4096) (arrays.buckets / 256) → left.refused ≤ new.refused → LacksArray old new arrays
lacks_array old mid left new arrays store pairs due sound maps leaves undone counted =
    let facts = due_facts old.mem arrays store pairs due in
    let size : ℕ = 16 * arrays.buckets in
    let few : ℕ = arrays.buckets / 512 in
    let many : ℕ = arrays.buckets / 256 in
    let small : few ≤ 32768 = omega (arith, facts.whole, facts.few) in
    let large : many ≤ 32768 = omega (arith, facts.whole, facts.few) in
    let areas : old.mem.areas ≡ one_array arrays.old few = one_areas old.mem arrays store pairs due in
    let left_areas : left.mem.areas ≡ areas_with_both arrays = ap (λ (m : FlatMemory). m.areas) leaves.mem ∙ maps.areas in
    let made = unmapped_by left new undone.0 (arrays.new / 4096) many _
    (unmap_one left.mem (arrays.new / 4096) many arrays.old few
    (ap (areas_without (arrays.new / 4096) many) left_areas
    ∙ out_new arrays.old arrays.new few many facts.regions small large (omega (arith, facts.whole, facts.some)))) undone.1.0 undone.1.1 in
    let pages : ℕ → PageMap → PageMap = λ n p. with_pages p (page_of arrays.new) (page_count arrays.new n) in
    let own : (n : ℕ) → own_of (touched mid.mem arrays.new n) ≡ own_of (touched old.mem arrays.new n) =
    λ n. ap (λ p. own_of (record { areas = []; present = pages n p })) maps.present in
    let free = (taken-none (one_array arrays.old few) (arrays.new / 4096) many).0
    (new_free arrays.old arrays.new few many facts.regions small large) in
    let none : (page : ℕ) → IsAmong (arrays.new / 4096) many page → get old.mem.present page ≡ None = λ page among.
    nothing (get old.mem.present page) (λ there. false≢true
    (sym (ap is_some (free page among)) ∙ subst (λ a. IsSome (area_of a page)) areas (sound.flat.in_areas page there))) in
    let present : new.mem.present ≡ old.mem.present =
    ap (λ (m : FlatMemory). m.present) made.0
    ∙ ap (λ (m : FlatMemory). unmapped m.present (arrays.new / 4096) many) leaves.mem
    ∙ ap (λ p. unmapped (pages leaves.done p) (arrays.new / 4096) many) maps.present
    ∙ pages_undone old.mem (arrays.new / 4096) many (page_count arrays.new leaves.done) (count_few facts.regions leaves.done leaves.few
    (omega (arith, facts.whole))) none in
    record {
      mem = ap₂ (λ a p. record { areas = a; present = p }) (ap (λ (m : FlatMemory). m.areas) made.0 ∙ sym areas) present;
      most = omega (arith, leaves.most, made.1, own size, maps.most);
      rose = omega (arith, leaves.rose, maps.refused, counted);
      reached = omega (arith, leaves.reached, made.1, own (min size 4194304));
    }
  where
    nothing : (o : Option (List ℕ)) → (IsSome o → ⊥) → o ≡ None
    nothing None never = refl
    nothing (Some x) never = absurd (never refl)

    count_few : AreRegions arrays.old arrays.new → (done : ℕ) → done < 16 * arrays.buckets → 16 * arrays.buckets
        ≡ 4096 * (arrays.buckets / 256)
        → page_count arrays.new done ≤ arrays.buckets / 256
    count_few regions done below whole = elim (cases_eq done 0) [
      | inl none ↦
          let nothing_is : page_count arrays.new done ≡ 0 = cond-true (eqb done 0) 0 _ (eq-eqb done 0 none) in
          omega (arith, nothing_is)
      | inr some ↦
          let count : page_count arrays.new done ≡ page_of (arrays.new + done - 1) + 1 - page_of arrays.new =
          cond-false (eqb done 0) 0 _ (ne_eqb done 0 some) in
          elim regions [
            | inl up ↦ omega (arith, count, below, whole, up.1, some)
            | inr down ↦ omega (arith, count, below, whole, down.1, some)
          ]
    ]
