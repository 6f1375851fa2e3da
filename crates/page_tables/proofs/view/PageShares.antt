-- The parent has no more pages than page tables hold frames: each is one of the pairs that the share of its cell counts.
use Rattle.std.proofs.Common.{◌≡◌, ℕ, ◌+◌, ◌*◌, ◌≤◌, true, eqb, List, [], ◌∷◌, ◌++◌, map, length, length-append, Option, Some, None, refl, sym, ◌∙◌, ap, subst, arith, inl, inr, ◌⊎◌}
use Rattle.std.specs.Prelude.{IsSome, is_some}
use Rattle.std.specs.Ordering.{nat_cmp}
use Rattle.std.specs.Cmp.{nat_eq_equiv}
use Rattle.std.specs.FinMap.{get, keys, len, empty, get-empty}
use Rattle.std.proofs.lemmas.Bool.{eq-eqb, or_cases, or_left, or_right, false≢true}
use Rattle.std.proofs.lemmas.List.{length-map}
use Rattle.std.proofs.lemmas.List.Sums.{sum_by-cons}
use Rattle.std.proofs.lemmas.Map.Made.{length-le_from_is_member}
use Rattle.vm_base.specs.FlatMemory.{PageMap}
use Rattle.vm_base.proofs.OwnFrames.{member, member-keys, IsDistinct-keys, length-keys}
use Rattle.kernel_meaning.specs.Leaves.{CellLeaves, version_at, pairs_from, named_pairs, share}
use Rattle.leaf_cell.specs.CellView.{CellView, bytes_in, parent_page}
use Rattle.leaf_cell.proofs.PairCounts.{IsIn, to-distinct}
use Rattle.leaf_cell.proofs.LivePairs.{all_pairs, pair-at, append-left}
use Rattle.page_tables.specs.declared.slot.Slot.{Slot}
use Rattle.page_tables.specs.declared.tables.PageTables.{PageTables}
use Rattle.page_tables.specs.Sides.{Sides}
use Rattle.page_tables.specs.Standing.{TablesStandFor}
use Rattle.page_tables.specs.Held.{shares_in, frames_of}
use Rattle.page_tables.specs.SlotViews.{with_owned_pages, pages_in}
use Rattle.page_tables.specs.TablesView.{state_shown, slot_shown}
use Rattle.page_tables.proofs.view.ViewReads.{read-or-old}
use Rattle.page_tables.proofs.view.ViewSides.{seen-pages}

member-front : (q : ℕ) (xs ys : List ℕ) → member q xs ≡ true → member q (xs ++ ys) ≡ true
member-front q [] ys there = absurd (false≢true there)
member-front q (x ∷ xs) ys there = elim (or_cases (eqb q x) (member q xs) there) [
  | inl here ↦ or_left (eqb q x) (member q (xs ++ ys)) here
  | inr later ↦ or_right (eqb q x) (member q (xs ++ ys)) (member-front q xs ys later)
]

member-behind : (q : ℕ) (xs ys : List ℕ) → member q ys ≡ true → member q (xs ++ ys) ≡ true
member-behind q [] ys there = there
member-behind q (x ∷ xs) ys there = or_right (eqb q x) (member q (xs ++ ys)) (member-behind q xs ys there)

-- the pages of pairs of a cell
abbrev pages_named : ℕ → List (ℕ × ℕ) → List ℕ
pages_named c pairs = map (λ (pair : ℕ × ℕ). c * 512 + pair.0) pairs

pair-named : (c : ℕ) (x : ℕ × ℕ) (pairs : List (ℕ × ℕ)) → IsIn x pairs → member (c * 512 + x.0) (pages_named c pairs) ≡ true
pair-named c x [] there = absurd there
pair-named c x (y ∷ pairs) (inl here) =
    or_left (eqb (c * 512 + x.0) (c * 512 + y.0)) (member (c * 512 + x.0) (pages_named c pairs))
    (eq-eqb (c * 512 + x.0) (c * 512 + y.0) (ap (λ (pair : ℕ × ℕ). c * 512 + pair.0) here))
pair-named c x (y ∷ pairs) (inr later) =
    or_right (eqb (c * 512 + x.0) (c * 512 + y.0)) (member (c * 512 + x.0) (pages_named c pairs)) (pair-named c x pairs later)

-- a page that the parent has at a cell is one of those that the cell's pairs name
page-named : (c : ℕ) (view : CellView) (p : ℕ) → IsSome (parent_page view p)
    → member (c * 512 + p) (pages_named c (named_pairs view.leaves)) ≡ true
page-named c view p there = by (version_at view.leaves.parent p) refl there
  where
    by : (o : Option ℕ) → version_at view.leaves.parent p ≡ o → IsSome (bytes_in view.frames o)
        → member (c * 512 + p) (pages_named c (named_pairs view.leaves)) ≡ true
    by None is none = absurd (false≢true none)
    by (Some version) is some =
        pair-named c (p, version) (named_pairs view.leaves) (to-distinct (p, version) (all_pairs view.leaves)
        (append-left (p, version) (pairs_from 0 view.leaves.parent) _ (pair-at 0 view.leaves.parent p p version (omega arith) is)))

-- so is a page that it shows
shown-named : (c : ℕ) (view : CellView) (p : ℕ) → IsSome (get (state_shown view).pages p)
    → member (c * 512 + p) (pages_named c (named_pairs view.leaves)) ≡ true
shown-named c view p there = elim (read-or-old 0 (parent_page view) 512 empty p there) [
  | inl old ↦ absurd (false≢true (sym (ap is_some (get-empty nat_cmp p)) ∙ old))
  | inr read ↦
      let same : p ≡ read.0 = omega (arith, read.1.0) in
      page-named c view p (ap (λ i. is_some (parent_page view i)) same ∙ read.1.1)
]

-- the pages that the pairs of an owner's cell name
abbrev owner_named : Option ℕ → CellLeaves → List ℕ
owner_named None cell = []
owner_named (Some c) cell = pages_named c (named_pairs cell)

-- those of all slots
abbrev slots_named : List Slot → List ℕ
slots_named [] = []
slots_named (slot ∷ slots) = owner_named slot.owner slot.cell.leaves ++ slots_named slots

owned-or-old : (owner : Option ℕ) (view : CellView) (pages : PageMap) (q : ℕ)
    → IsSome (get (with_owned_pages owner (state_shown view).pages pages) q)
    → IsSome (get pages q) ⊎ (member q (owner_named owner view.leaves) ≡ true)
owned-or-old None view pages q there = inl there
owned-or-old (Some c) view pages q there = elim (read-or-old (c * 512) (get (state_shown view).pages) 512 pages q there) [
  | inl old ↦ inl old
  | inr read ↦ inr (ap (λ k. member k (pages_named c (named_pairs view.leaves))) read.1.0 ∙ shown-named c view read.0 read.1.1)
]

all-named : (slots : List Slot) (q : ℕ) → IsSome (get (pages_in (map slot_shown slots)) q) → member q (slots_named slots) ≡ true
all-named [] q there = absurd (false≢true (sym (ap is_some (get-empty nat_cmp q)) ∙ there))
all-named (slot ∷ slots) q there = elim (owned-or-old slot.owner slot.cell (pages_in (map slot_shown slots)) q there) [
  | inl old ↦ member-behind q (owner_named slot.owner slot.cell.leaves) (slots_named slots) (all-named slots q old)
  | inr new ↦ member-front q (owner_named slot.owner slot.cell.leaves) (slots_named slots) new
]

few-owned : (owner : Option ℕ) (cell : CellLeaves) → length (owner_named owner cell) ≤ share cell
few-owned None cell = omega arith
few-owned (Some c) cell =
    let same : length (pages_named c (named_pairs cell)) ≡ length (named_pairs cell) =
    length-map (named_pairs cell) (λ (pair : ℕ × ℕ). c * 512 + pair.0) in
    omega (arith, same)

few-named : (slots : List Slot) → length (slots_named slots) ≤ shares_in slots
few-named [] = omega arith
few-named (slot ∷ slots) =
    omega (
      arith,
      length-append (owner_named slot.owner slot.cell.leaves) (slots_named slots),
      sum_by-cons (λ slot. share slot.cell.leaves) slot slots,
      few-owned slot.owner slot.cell.leaves,
      few-named slots,
    )

slots-held : (slots : List Slot) → len (pages_in (map slot_shown slots)) ≤ shares_in slots
slots-held slots =
    let pages : PageMap = pages_in (map slot_shown slots) in
    let shorter : length (keys pages) ≤ length (slots_named slots) =
    length-le_from_is_member nat_eq_equiv (keys pages) (slots_named slots) (IsDistinct-keys pages)
    (λ q there. all-named slots q (sym (member-keys pages q) ∙ there)) in
    omega (arith, shorter, length-keys pages, few-named slots)

-- the parent has no more pages than the tables hold frames
pub seen-held : (tables : PageTables) (sides : Sides) → TablesStandFor tables sides → len sides.pages ≤ frames_of tables
seen-held tables sides st =
    let held : len sides.pages ≤ shares_in tables.slots.items =
    subst (λ pages. len pages ≤ shares_in tables.slots.items) (seen-pages tables sides st) (slots-held tables.slots.items) in
    omega (arith, held, tables.even)
