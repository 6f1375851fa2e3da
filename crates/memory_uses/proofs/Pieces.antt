-- Pages that are touched in pieces.
use Rattle.std.proofs.Common.{◌≡◌, ℕ, zero, suc, ◌+◌, ◌-◌, ◌*◌, ◌/◌, ◌<◌, ◌≤◌, max, refl, sym, ◌∙◌, ap, subst, arith, inl, inr}
use Rattle.std.specs.Prelude.{◌==◌, IsTrue}
use Rattle.std.specs.FinMap.{get}
use Rattle.std.proofs.lemmas.Bool.{cases_lt, cond-false, ne_eqb}
use Rattle.std.proofs.lemmas.Bool.Decides.{nat_tests}
use Rattle.vm_base.specs.declared.faults.Fault.{Fault}
use Rattle.vm_base.specs.Places.{page_of, page_count, cells_of_range}
use Rattle.vm_base.specs.FlatMemory.{PageMap, FlatMemory}
use Rattle.vm_base.specs.FlatStep.{with_page, with_pages, is_beyond}
use Rattle.vm_base.specs.FlatLaws.{IsBeyond}
use Rattle.vm_base.specs.MemoryState.{MemoryState, IsMemory, IsKept, own_of}
use Rattle.vm_base.specs.MemoryCalls.{IsInRange, Touches, touched}
use Rattle.vm_base.proofs.IsKeptOn.{IsKept-on}
use Rattle.vm_base.proofs.FlatAreas.{cells-of_pages}
use Rattle.vm_base.proofs.FlatFrames.{own-touched_range}
use Rattle.vm_base.proofs.FlatLaws.{get-with_pages_beyond}
use Rattle.memory_uses.specs.Steps.{AreListed}
use Rattle.memory_uses.specs.Doubled.{TouchesPages, ArrayFails}
use Rattle.memory_uses.proofs.Touched.{touches_mem, touch_fails_mem}

page_at : (first : ℕ) → page_of (first * 4096) ≡ first
page_at first = omega arith

count_at : (first n : ℕ) → page_count (first * 4096) (n * 4096) ≡ n
count_at first zero = refl
count_at first (suc n) =
    let counted : (first * 4096 + suc n * 4096 - 1) / 4096 + 1 - first * 4096 / 4096 ≡ suc n = omega arith in
    cond-false (suc n * 4096 == 0) 0 ((first * 4096 + suc n * 4096 - 1) / 4096 + 1 - first * 4096 / 4096) (ne_eqb (suc n * 4096) 0 (λ same. absurd (omega (arith, same)))) ∙ counted

-- pages of a range that begins at a page and has whole pages
in_pages : (first n page : ℕ) → IsInRange page (first * 4096) (n * 4096) → (first ≤ page) × (page < first + n)
in_pages first n page is = (
  subst (λ p. p ≤ page) (page_at first) is.0,
  subst (λ c. page < first + c) (count_at first n) (subst (λ p. page < p + page_count (first * 4096) (n * 4096)) (page_at first) is.1),
)

to_pages : (first n page : ℕ) → first ≤ page → page < first + n → IsInRange page (first * 4096) (n * 4096)
to_pages first n page above below = (
  subst (λ p. p ≤ page) (sym (page_at first)) above,
  subst (λ p. page < p + page_count (first * 4096) (n * 4096)) (sym (page_at first)) (subst (λ c. page < first + c) (sym (count_at first n)) below),
)

touched_at : (memory : FlatMemory) (first n : ℕ) → touched memory (first * 4096) (n * 4096) ≡ record memory { present = with_pages memory.present first n }
touched_at memory first n =
    ap (λ p. record memory { present = with_pages memory.present p (page_count (first * 4096) (n * 4096)) }) (page_at first)
    ∙ ap (λ c. record memory { present = with_pages memory.present first c }) (count_at first n)

with_pages-split : (j k first : ℕ) (present : PageMap) → with_pages present first (j + k) ≡ with_pages (with_pages present first j) (first + j) k
with_pages-split zero k first present =
    let none : 0 + k ≡ k = omega arith in
    let same : first ≡ first + 0 = omega arith in
    ap (with_pages present first) none ∙ ap (λ f. with_pages present f k) same
with_pages-split (suc j) k first present =
    let same : first + 1 + j ≡ first + suc j = omega arith in
    let next : suc j + k ≡ suc (j + k) = omega arith in
    ap (with_pages present first) next ∙ with_pages-split j k (first + 1) (with_page present first) ∙ ap (λ f. with_pages (with_pages (with_page present first) (first + 1) j) f k) same

touched-split : (memory : FlatMemory) (first j k : ℕ) → touched (touched memory (first * 4096) (j * 4096)) ((first + j) * 4096) (k * 4096) ≡ touched memory (first * 4096) ((j + k) * 4096)
touched-split memory first j k =
    ap (λ m. touched m ((first + j) * 4096) (k * 4096)) (touched_at memory first j)
    ∙ touched_at (record memory { present = with_pages memory.present first j }) (first + j) k
    ∙ ap (λ p. record memory { present = p }) (sym (with_pages-split j k first memory.present))
    ∙ sym (touched_at memory first (j + k))

-- no page was touched yet
pub pages_none : (state : MemoryState) (first : ℕ) → IsMemory state → TouchesPages state state first 0
pages_none state first is = record {
  counted = omega arith;
  mem = refl;
  most = let own : own_of state.mem ≤ state.most = is.own in omega (arith, own);
  ready = λ page within. let parts = in_pages first 0 page within in absurd (omega (arith, parts.0, parts.1));
  keeps = λ page there. there;
}

more_most : (old middle new a b : ℕ) → middle ≡ max old a → new ≡ max middle b → a ≤ b → new ≡ max old b
more_most old middle new a b first second below = omega (arith, first, second, below)

-- one piece more was touched
pub pages_more : (old middle new : MemoryState) (first done piece : ℕ) → TouchesPages old middle first done → Touches middle new ((first + done) * 4096) (piece * 4096)
    → middle.refused ≤ new.refused → TouchesPages old new first (done + piece)
pages_more old middle new first done piece front touch counted =
    let mem = touches_mem middle new ((first + done) * 4096) (piece * 4096) touch in
    record {
      counted = omega (arith, front.counted, counted);
      mem = mem ∙ ap (λ m. touched m ((first + done) * 4096) (piece * 4096)) front.mem ∙ touched-split old.mem first done piece;
      most = more_most old.most middle.most new.most (own_of middle.mem) (own_of new.mem) front.most
          (touch.most ∙ ap (λ m. max middle.most (own_of m)) (sym mem))
          (subst (λ m. own_of middle.mem ≤ own_of m) (sym mem) (own-touched_range middle.mem ((first + done) * 4096) (piece * 4096)));
      ready = λ page within. let parts = in_pages first (done + piece) page within in elim (cases_lt page (first + done)) [
        | inl before ↦ touch.keeps page (front.ready page (to_pages first done page parts.0 before))
        | inr behind ↦ touch.ready page (to_pages (first + done) piece page behind (omega (arith, parts.1)))
      ];
      keeps = λ page there. touch.keeps page (front.keeps page there);
    }

-- the cells of a piece are cells of the whole
pub piece_listed : (first n done piece : ℕ) → done + piece ≤ n → AreListed (cells_of_range ((first + done) * 4096) (piece * 4096)) (cells_of_range (first * 4096) (n * 4096))
piece_listed first n done piece within cell is =
    let there = (cells-of_pages ((first + done) * 4096) (piece * 4096) cell).0 is in
    let parts = in_pages (first + done) piece there.0 there.1.0 in
    (cells-of_pages (first * 4096) (n * 4096) cell).1 (there.0, (to_pages first n there.0 (omega (arith, parts.0)) (omega (arith, parts.1, within)), there.1.1))

-- pages beyond those touched are as they were
beyond : (first n page : ℕ) → IsTrue (is_beyond first n page) → IsBeyond first n page
beyond first n page out = elim (cases_lt page first) [
  | inl below ↦ inl below
  | inr above ↦ elim (cases_lt page (first + n)) [
    | inl inside ↦ absurd (grind (arith, nat_tests))
    | inr over ↦ inr over
  ]
]

beyond_less : (first n done page : ℕ) → done ≤ n → IsBeyond first n page → IsBeyond first done page
beyond_less first n done page less (inl below) = inl below
beyond_less first n done page less (inr over) = inr (omega (arith, over, less))

pages_beyond : (memory later : FlatMemory) (first n done : ℕ) → done ≤ n → later ≡ touched memory (first * 4096) (done * 4096)
    → (page : ℕ) → IsTrue (is_beyond first n page) → get later.present page ≡ get memory.present page
pages_beyond memory later first n done less same page out =
    ap (λ m. get m.present page) (same ∙ touched_at memory first done)
    ∙ get-with_pages_beyond memory.present first done page (beyond_less first n done page less (beyond first n page out))

-- what a refused touch of an array leaves: some of its pages may be present, and nothing else has changed
pub array_fails_mem : (old new : MemoryState) (first n header size : ℕ) (fault : Fault) → ArrayFails old new first n header size fault
    → (new.mem.areas ≡ old.mem.areas) × ((page : ℕ) → IsTrue (is_beyond first n page) → get new.mem.present page ≡ get old.mem.present page)
array_fails_mem old new first n header size fault (inl fails) =
    let mem = touch_fails_mem fails.before new ((first + fails.done) * 4096) (fails.piece * 4096) fault fails.fails ∙ fails.front.mem in
    let less : fails.done ≤ n = omega (arith, fails.within) in
    (ap (λ m. m.areas) mem, pages_beyond old.mem new.mem first n fails.done less mem)
array_fails_mem old new first n header size fault (inr fails) =
    let mem = touch_fails_mem fails.0 new header size fault fails.1.1 ∙ fails.1.0.mem in
    let less : n ≤ n = omega arith in
    (ap (λ m. m.areas) mem, pages_beyond old.mem new.mem first n n less mem)

-- behind one piece more, or its refusal, the memory keeps what it did
pub kept_more : (old middle new : MemoryState) (first n done piece : ℕ) → done + piece ≤ n → IsKept old middle (cells_of_range (first * 4096) (n * 4096))
    → IsKept middle new (cells_of_range ((first + done) * 4096) (piece * 4096)) → IsKept old new (cells_of_range (first * 4096) (n * 4096))
kept_more old middle new first n done piece within before after =
    IsKept-on old middle new (cells_of_range (first * 4096) (n * 4096)) (cells_of_range ((first + done) * 4096) (piece * 4096)) (cells_of_range (first * 4096) (n * 4096))
    before after (λ cell is. is) (piece_listed first n done piece within)
