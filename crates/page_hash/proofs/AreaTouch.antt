-- The pages of an area that are touched piece by piece.
use Rattle.std.proofs.Common.{◌≡◌, ℕ, zero, suc, ◌+◌, ◌-◌, ◌*◌, ◌<◌, ◌≤◌, ◌⊎◌, min, max, eqb, Ok, refl, sym, ◌∙◌, ap, subst, arith, inl, inr, Contains}
use Rattle.std.proofs.lemmas.Bool.{cases_eq, cases_lt, cond-false, ne_eqb}
use Rattle.vm_base.specs.declared.faults.Fault.{Fault}
use Rattle.vm_base.specs.declared.faults.Fault.TheVariants.{NoArea, NoWrite, NoFrame, Overlap, AreasFull, CellsFull}
use Rattle.vm_base.specs.Places.{page_of, page_count, cells_of_range}
use Rattle.vm_base.specs.FlatMemory.{PageMap, FlatMemory}
use Rattle.vm_base.specs.FlatStep.{with_page, with_pages}
use Rattle.vm_base.specs.MemoryState.{MemoryState, IsMemory, IsKept, own_of}
use Rattle.vm_base.specs.MemoryCalls.{IsReady, Touches, TouchFails, touched, touch_answer}
use Rattle.vm_base.proofs.OwnFrames.{own-touched}
use Rattle.vm_base.proofs.IsKeptOn.{IsKept-on}
use Rattle.store_meaning.specs.Layout.{store_area, store_cells}
use Rattle.page_heap.proofs.Mapped.{one_memory, no_fault}
use Rattle.page_hash.specs.Doubling.{IsFreshArea, TouchesArea, LeavesArea}
use Rattle.page_hash.proofs.PresentTouch.{region_answer}
use Rattle.page_hash.proofs.Cleared.{may_kept}
use Rattle.page_hash.proofs.BlockLinks.{kept_none}

-- pages that are touched in two parts
with_pages_add : (j k : ℕ) (present : PageMap) (first : ℕ) → with_pages present first (j + k)
    ≡ with_pages (with_pages present first j) (first + j) k
with_pages_add zero k present first =
    let none : zero + k ≡ k = omega arith in
    let here : first ≡ first + zero = omega arith in
    ap (with_pages present first) none ∙ ap (λ f. with_pages present f k) here
with_pages_add (suc j) k present first =
    let more : suc j + k ≡ suc (j + k) = omega arith in
    let here : first + 1 + j ≡ first + suc j = omega arith in
    ap (with_pages present first) more ∙ with_pages_add j k (with_page present first) (first + 1)
    ∙ ap (λ f. with_pages (with_pages (with_page present first) (first + 1) j) f k) here

-- a range of whole pages has as many as that
pub count_whole : (first k : ℕ) → page_count (4096 * first) (4096 * k) ≡ k
count_whole first k = elim (cases_eq k 0) [
  | inl none ↦ ap (λ q. page_count (4096 * first) (4096 * q)) none ∙ sym none
  | inr some ↦
      let count : page_count (4096 * first) (4096 * k) ≡ page_of (4096 * first + 4096 * k - 1) + 1 - page_of (4096 * first) =
      cond-false (eqb (4096 * k) 0) 0 _ (ne_eqb (4096 * k) 0 (λ none. some (omega (arith, none)))) in
      let pages : page_of (4096 * first + 4096 * k - 1) + 1 - page_of (4096 * first) ≡ k = omega (arith, some) in
      count ∙ pages
]

pub touched_on : (memory : FlatMemory) (first j k : ℕ)
    → touched (touched memory (4096 * first) (4096 * j)) (4096 * first + 4096 * j) (4096 * k)
    ≡ touched memory (4096 * first) (4096 * j + 4096 * k)
touched_on memory first j k =
    let at : page_of (4096 * first) ≡ first = omega arith in
    let behind : 4096 * first + 4096 * j ≡ 4096 * (first + j) = omega arith in
    let behind_page : page_of (4096 * (first + j)) ≡ first + j = omega arith in
    let sum : 4096 * j + 4096 * k ≡ 4096 * (j + k) = omega arith in
    let front : with_pages memory.present (page_of (4096 * first)) (page_count (4096 * first) (4096 * j))
    ≡ with_pages memory.present first j =
    ap (λ f. with_pages memory.present f (page_count (4096 * first) (4096 * j))) at
    ∙ ap (with_pages memory.present first) (count_whole first j) in
    let whole : (touched memory (4096 * first) (4096 * (j + k))).present ≡ with_pages memory.present first (j + k) =
    ap (λ f. with_pages memory.present f (page_count (4096 * first) (4096 * (j + k)))) at
    ∙ ap (with_pages memory.present first) (count_whole first (j + k)) in
    ap (λ a. touched (touched memory (4096 * first) (4096 * j)) a (4096 * k)) behind
    ∙ ap (λ (p : PageMap). record memory { present = p })
    (ap (λ p. with_pages p (page_of (4096 * (first + j))) (page_count (4096 * (first + j)) (4096 * k))) front
    ∙ ap (λ f. with_pages (with_pages memory.present first j) f (page_count (4096 * (first + j)) (4096 * k))) behind_page
    ∙ ap (with_pages (with_pages memory.present first j) (first + j)) (count_whole (first + j) k)
    ∙ sym (with_pages_add j k memory.present first) ∙ sym whole)
    ∙ ap (touched memory (4096 * first)) (sym sum)

-- the first pages of an area were touched
pub record TouchesFront (old new : MemoryState) (first size done : ℕ) : Type 0 where
  pub part : ℕ
  pub whole : done ≡ 4096 * part
  pub few : done ≤ size
  pub mem : new.mem ≡ touched old.mem (4096 * first) done
  pub most : new.most ≤ max old.most (own_of (touched old.mem (4096 * first) size))
  pub reached : (done ≡ 0) ⊎ (own_of (touched old.mem (4096 * first) (min size 4194304)) ≤ new.most)
  pub ready : IsReady new (4096 * first) done
  pub kept : IsKept old new store_cells

-- no pages yet
pub front_begin : (old : MemoryState) (first size : ℕ) → IsMemory old → TouchesFront old old first size 0
front_begin old first size sound = record {
  part = 0;
  whole = refl;
  few = omega arith;
  mem = refl;
  most = omega arith;
  reached = inl refl;
  ready = λ page inside. absurd (omega (arith, inside.0, inside.1));
  kept = kept_none old store_cells sound;
}

own_rises : (memory : FlatMemory) (first j k : ℕ) → own_of (touched memory (4096 * first) (4096 * j))
    ≤ own_of (touched memory (4096 * first) (4096 * j + 4096 * k))
own_rises memory first j k =
    subst (λ m. own_of (touched memory (4096 * first) (4096 * j)) ≤ own_of m) (touched_on memory first j k)
    (own-touched (touched memory (4096 * first) (4096 * j)) (page_of (4096 * first + 4096 * j))
    (page_count (4096 * first + 4096 * j) (4096 * k)))

-- the next piece is not refused by areas or slots
pub piece_answer : (old mid : MemoryState) (address size done piece : ℕ) (is : IsFreshArea old address size)
    → TouchesFront old mid is.first size done → done + piece ≤ size
    → touch_answer mid (address + done) piece ≡ Ok (touched mid.mem (address + done) piece)
piece_answer old mid address size done piece is front few =
    region_answer mid (store_area address is.pages) (address + done) piece front.kept.after (may_kept old mid front.kept is.may)
    (subst (λ (m : FlatMemory). Contains m.areas (store_area address is.pages)) (sym front.mem) is.area)
    (omega (arith, is.at), omega (arith, is.at, is.bytes, few)) refl
    (is.cells (address + done) piece (omega arith) (omega (arith, few)))

-- how many pages the next piece has
abbrev pub piece_pages : ℕ → ℕ → ℕ
piece_pages pages part = min (pages - part) 1024

piece_whole : (size done piece pages part : ℕ) → size ≡ 4096 * pages → done ≡ 4096 * part → piece ≡ min (size - done) 4194304
    → piece ≡ 4096 * piece_pages pages part
piece_whole size done piece pages part whole front is = omega (arith, whole, front, is)

-- what the piece asks for, and what is there behind it
piece_touched : (old mid : MemoryState) (address size done piece : ℕ) (is : IsFreshArea old address size)
    → TouchesFront old mid is.first size done → piece ≡ min (size - done) 4194304
    → touched mid.mem (address + done) piece ≡ touched old.mem (4096 * is.first) (done + piece)
piece_touched old mid address size done piece is front given =
    let k : ℕ = piece_pages is.pages front.part in
    let whole : piece ≡ 4096 * k = piece_whole size done piece is.pages front.part is.bytes front.whole given in
    let at : address + done ≡ 4096 * is.first + 4096 * front.part = omega (arith, is.at, front.whole) in
    let sum : 4096 * front.part + 4096 * k ≡ done + piece = omega (arith, front.whole, whole) in
    ap (λ m. touched m (address + done) piece) (front.mem ∙ ap (touched old.mem (4096 * is.first)) front.whole)
    ∙ ap (λ a. touched (touched old.mem (4096 * is.first) (4096 * front.part)) a piece) at
    ∙ ap (touched (touched old.mem (4096 * is.first) (4096 * front.part)) (4096 * is.first + 4096 * front.part)) whole
    ∙ touched_on old.mem is.first front.part k
    ∙ ap (touched old.mem (4096 * is.first)) sum

piece_own : (old mid : MemoryState) (address size done piece : ℕ) (is : IsFreshArea old address size)
    → TouchesFront old mid is.first size done → piece ≡ min (size - done) 4194304
    → own_of (touched mid.mem (address + done) piece) ≤ own_of (touched old.mem (4096 * is.first) size)
piece_own old mid address size done piece is front given =
    let k : ℕ = piece_pages is.pages front.part in
    let whole : piece ≡ 4096 * k = piece_whole size done piece is.pages front.part is.bytes front.whole given in
    let some : done + piece ≡ 4096 * (front.part + k) = omega (arith, front.whole, whole) in
    let rest : 4096 * (front.part + k) + 4096 * (is.pages - (front.part + k)) ≡ size =
    omega (arith, is.bytes, front.whole, whole, given, front.few) in
    let same : own_of (touched mid.mem (address + done) piece) ≡ own_of (touched old.mem (4096 * is.first) (4096 * (front.part + k))) =
    ap own_of (piece_touched old mid address size done piece is front given ∙ ap (touched old.mem (4096 * is.first)) some) in
    let rises : own_of (touched old.mem (4096 * is.first) (4096 * (front.part + k))) ≤ own_of (touched old.mem (4096 * is.first) size) =
    subst (λ n. own_of (touched old.mem (4096 * is.first) (4096 * (front.part + k))) ≤ own_of (touched old.mem (4096 * is.first) n)) rest
    (own_rises old.mem is.first (front.part + k) (is.pages - (front.part + k))) in
    omega (arith, same, rises)

-- the first piece at least was asked for
piece_reached : (old mid new : MemoryState) (address size done piece : ℕ) (is : IsFreshArea old address size)
    → TouchesFront old mid is.first size done → piece ≡ min (size - done) 4194304 → mid.most ≤ new.most
    → own_of (touched mid.mem (address + done) piece) ≤ new.most
    → own_of (touched old.mem (4096 * is.first) (min size 4194304)) ≤ new.most
piece_reached old mid new address size done piece is front given grown asked = elim front.reached [
  | inl none ↦
      let first : done + piece ≡ min size 4194304 = omega (arith, none, given) in
      subst (λ m. own_of m ≤ new.most)
      (piece_touched old mid address size done piece is front given ∙ ap (touched old.mem (4096 * is.first)) first) asked
  | inr before ↦ omega (arith, before, grown)
]

-- one piece more
pub front_more : (old mid new : MemoryState) (address size done piece : ℕ) (is : IsFreshArea old address size)
    → TouchesFront old mid is.first size done → piece ≡ min (size - done) 4194304 → Touches mid new (address + done) piece
    → IsKept mid new (cells_of_range (address + done) piece) → TouchesFront old new is.first size (done + piece)
front_more old mid new address size done piece is front given touch kept =
    let k : ℕ = piece_pages is.pages front.part in
    let whole : piece ≡ 4096 * k = piece_whole size done piece is.pages front.part is.bytes front.whole given in
    let fits : done + piece ≤ size = omega (arith, given, front.few) in
    let memory : new.mem ≡ touched mid.mem (address + done) piece =
    one_memory (touch_answer mid (address + done) piece) _ new.mem (piece_answer old mid address size done piece is front fits) touch.mem in
    let own = piece_own old mid address size done piece is front given in
    record {
      part = front.part + k;
      whole = omega (arith, front.whole, whole);
      few = fits;
      mem = memory ∙ piece_touched old mid address size done piece is front given;
      most = omega (arith, touch.most, own, front.most);
      reached = inr (piece_reached old mid new address size done piece is front given kept.grown (omega (arith, touch.most)));
      ready = λ page inside. elim (cases_lt page (is.first + front.part)) [
        | inl before ↦ touch.keeps page (front.ready page (omega (arith, inside.0), below_front page before))
        | inr behind ↦ touch.ready page (omega (arith, is.at, front.whole, behind), above_front page k whole inside.1)
      ];
      kept = IsKept-on old mid new store_cells (cells_of_range (address + done) piece) store_cells front.kept kept (λ cell there. there)
          (is.cells (address + done) piece (omega arith) (omega (arith, fits)));
    }
  where
    below_front : (page : ℕ) → page < is.first + front.part → page < page_of (4096 * is.first) + page_count (4096 * is.first) done
    below_front page before =
        let count : page_count (4096 * is.first) done ≡ front.part =
        ap (page_count (4096 * is.first)) front.whole ∙ count_whole is.first front.part in
        omega (arith, count, before)

    above_front : (page k : ℕ) → piece ≡ 4096 * k → page < page_of (4096 * is.first) + page_count (4096 * is.first) (done + piece)
        → page < page_of (address + done) + page_count (address + done) piece
    above_front page k whole inside =
        let at : address + done ≡ 4096 * (is.first + front.part) = omega (arith, is.at, front.whole) in
        let sum : done + piece ≡ 4096 * (front.part + k) = omega (arith, front.whole, whole) in
        let all : page_count (4096 * is.first) (done + piece) ≡ front.part + k =
        ap (page_count (4096 * is.first)) sum ∙ count_whole is.first (front.part + k) in
        let count : page_count (address + done) piece ≡ k =
        ap (λ a. page_count a piece) at ∙ ap (page_count (4096 * (is.first + front.part))) whole ∙ count_whole (is.first + front.part) k in
        omega (arith, all, count, at, inside)

-- a piece was refused for want of a frame
pub front_fails : (old mid new : MemoryState) (address size done piece : ℕ) (fault : Fault) (is : IsFreshArea old address size)
    → TouchesFront old mid is.first size done → done < size → piece ≡ min (size - done) 4194304
    → TouchFails mid new (address + done) piece fault → IsKept mid new (cells_of_range (address + done) piece)
    → LeavesArea old new address size
front_fails old mid new address size done piece (NoFrame at page) is front more given fails kept =
    let own = piece_own old mid address size done piece is front given in
    subst (λ a. LeavesArea old new a size) (sym is.at) (record {
      done = done;
      few = more;
      mem = fails.mem ∙ front.mem;
      most = omega (arith, fails.most, own, front.most);
      rose = omega (arith, fails.rose, front.kept.counted);
      reached = piece_reached old mid new address size done piece is front given kept.grown (omega (arith, fails.most));
    })
front_fails old mid new address size done piece (NoArea page) is front more given fails kept =
    absurd (no_fault _ _ _ (piece_answer old mid address size done piece is front (omega (arith, given, front.few))) fails.0)
front_fails old mid new address size done piece (NoWrite page) is front more given fails kept =
    absurd (no_fault _ _ _ (piece_answer old mid address size done piece is front (omega (arith, given, front.few))) fails.0)
front_fails old mid new address size done piece (Overlap page) is front more given fails kept = absurd fails
front_fails old mid new address size done piece AreasFull is front more given fails kept = absurd fails
front_fails old mid new address size done piece CellsFull is front more given fails kept =
    absurd (no_fault _ _ _ (piece_answer old mid address size done piece is front (omega (arith, given, front.few))) fails.0)

-- all pieces were touched
pub front_end : (old new : MemoryState) (address size done : ℕ) (is : IsFreshArea old address size)
    → TouchesFront old new is.first size done → size ≤ done → TouchesArea old new address size
front_end old new address size done is front end =
    let all : done ≡ size = omega (arith, front.few, end) in
    subst (λ a. TouchesArea old new a size) (sym is.at) (record {
      mem = front.mem ∙ ap (touched old.mem (4096 * is.first)) all;
      most = front.most;
      ready = subst (IsReady new (4096 * is.first)) all front.ready;
    })

-- a refused piece keeps what each call keeps
pub front_fails_keeps : (old mid new : MemoryState) (address size done piece : ℕ) (is : IsFreshArea old address size)
    → TouchesFront old mid is.first size done → piece ≡ min (size - done) 4194304
    → IsKept mid new (cells_of_range (address + done) piece) → IsKept old new store_cells
front_fails_keeps old mid new address size done piece is front given kept =
    IsKept-on old mid new store_cells (cells_of_range (address + done) piece) store_cells front.kept kept (λ cell there. there)
    (is.cells (address + done) piece (omega arith) (omega (arith, given, front.few)))
