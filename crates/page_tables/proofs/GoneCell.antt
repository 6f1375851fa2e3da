-- The map of the cells without one that nobody has any more, and what a slot stands for that lost its owner.
use Rattle.std.proofs.Common.{◌≡◌, ◌≢◌, ℕ, ◌+◌, List, [], ◌∷◌, length, Option, Some, None, cond, eqb, refl, sym, ◌∙◌, ap, subst, arith, inl, inr}
use Rattle.std.specs.Prelude.{Bool, true, false, not, ◌||◌, ◌==◌, T, is_some, unwrap_or}
use Rattle.std.specs.Ordering.{nat_cmp, eq_by_cmp}
use Rattle.std.specs.Option.{option_map}
use Rattle.std.specs.Cmp.{nat_cmp_total}
use Rattle.std.specs.List.{AllByRecursion}
use Rattle.std.specs.FinMap.{find, is_sorted, get-empty, nat_cmp-IsAntisymmetric}
use Rattle.std.specs.FinMap.Entries.{where_key, is_sorted-where_key, find-where_key, length_without}
use Rattle.std.proofs.lemmas.Bool.{cases_eq, cond-false, eq-eqb, ne_eqb, false≢true}
use Rattle.std.proofs.lemmas.List.{length-replicate}
use Rattle.kernel_meaning.specs.Leaves.{Kept, CellLeaves, unused_cell, no_versions, version_at, kept_by, has_pages}
use Rattle.kernel_meaning.specs.FrameLaw.{Leaves, cell_at, with_cell, is_used}
use Rattle.kernel_meaning.specs.CellAccount.{CellState, empty_state}
use Rattle.leaf_cell.specs.CellView.{CellView, AreUnjoined, bytes_in, parent_page}
use Rattle.leaf_cell.specs.Renaming.{AreKeptAlike, IsRenaming, AreMade, renamed}
use Rattle.leaf_cell.specs.Standing.{StandsFor}
use Rattle.leaf_cell.proofs.Renamed.{version_at-renamed}
use Rattle.leaf_cell.proofs.AbsentPages.{version_at-none}
use Rattle.leaf_cell.proofs.Without.{table-none}
use Rattle.page_tables.specs.Standing.{AreKept}
use Rattle.page_tables.proofs.LeafMap.{same_number}

turned : (a b : ℕ) → eqb a b ≡ eqb b a
turned a b = elim (cases_eq a b) [
  | inl same ↦ eq-eqb a b same ∙ sym (eq-eqb b a (sym same))
  | inr apart ↦ ne_eqb a b apart ∙ sym (ne_eqb b a (λ same. apart (sym same)))
]

all-where : {X : Type 0} (P : X → Type 0) (test : ℕ → Bool) (es : List (ℕ × X)) → AllByRecursion (λ e. P e.1) es → AllByRecursion (λ e. P e.1) (where_key nat_cmp test es)
all-where P test [] h = h
all-where P test (e ∷ es) h =
    elim (test e.0) as (λ b. AllByRecursion (λ e. P e.1) (cond b (e ∷ where_key nat_cmp test es) (where_key nat_cmp test es))) [ true ↦ (h.0, all-where P test es h.1) | false ↦ all-where P test es h.1 ]

module _ (leaves : Leaves) (c : ℕ) (new : CellLeaves) (unused : is_used new ≡ false) where
  abbrev other : ℕ → Bool
  other q = not (eqb q c)

  with_cell-where : with_cell leaves c new ≡ where_key nat_cmp (λ q. not (eqb q c)) leaves
  with_cell-where = cond-false (is_used new) _ _ unused

  find-left : (q : ℕ) → find nat_cmp q (with_cell leaves c new) ≡ cond (not (eqb q c)) (find nat_cmp q leaves) None
  find-left q = ap (find nat_cmp q) with_cell-where ∙ find-where_key nat_cmp (λ q. not (eqb q c)) q (λ x e. ap (λ n. not (eqb n c)) (sym (nat_cmp-IsAntisymmetric q x e))) leaves

  pub find-gone : (q : ℕ) → q ≡ c → find nat_cmp q (with_cell leaves c new) ≡ None
  find-gone q here = find-left q ∙ ap (λ b. cond (not b) (find nat_cmp q leaves) None) (eq-eqb q c here)

  pub find-stays : (q : ℕ) → q ≢ c → find nat_cmp q (with_cell leaves c new) ≡ find nat_cmp q leaves
  find-stays q apart = find-left q ∙ ap (λ b. cond (not b) (find nat_cmp q leaves) None) (ne_eqb q c apart)

  pub cell_at-gone : (q : ℕ) → q ≡ c → cell_at (with_cell leaves c new) q ≡ unused_cell
  cell_at-gone q here = ap (λ o. unwrap_or o unused_cell) (find-gone q here)

  pub cell_at-stays : (q : ℕ) → q ≢ c → cell_at (with_cell leaves c new) q ≡ cell_at leaves q
  cell_at-stays q apart = ap (λ o. unwrap_or o unused_cell) (find-stays q apart)

  pub kept-gone : AreKept leaves → AreKept (with_cell leaves c new)
  kept-gone kept = record {
    sorted = subst (λ ls. T (is_sorted nat_cmp ls)) (sym with_cell-where) (is_sorted-where_key nat_cmp (λ q. not (eqb q c)) leaves kept.sorted);
    in_use = subst (AllByRecursion (λ e. is_used e.1 ≡ true)) (sym with_cell-where) (all-where (λ cell. is_used cell ≡ true) (λ q. not (eqb q c)) leaves kept.in_use);
    sizes = λ q. elim (cases_eq q c) [
      | inl here ↦ ap (λ cell. length cell.parent) (cell_at-gone q here) ∙ length-replicate {A = Option ℕ} 512 None
      | inr apart ↦ ap (λ cell. length cell.parent) (cell_at-stays q apart) ∙ kept.sizes q
    ];
    unjoined = λ q. elim (cases_eq q c) [
      | inl here ↦ subst (λ cell. AreUnjoined cell.kept) (sym (cell_at-gone q here)) tt
      | inr apart ↦ subst (λ cell. AreUnjoined cell.kept) (sym (cell_at-stays q apart)) (kept.unjoined q)
    ];
  }

  pub length-gone : T (is_sorted nat_cmp leaves) → is_some (find nat_cmp c leaves) ≡ true → length (with_cell leaves c new) + 1 ≡ length leaves
  length-gone sorted there =
      let same : where_key nat_cmp (λ x. not (eq_by_cmp nat_cmp c x)) leaves ≡ where_key nat_cmp (λ q. not (eqb q c)) leaves = λ i. where_key nat_cmp (λ x. not ((same_number c x ∙ turned c x) i)) leaves in
      let whole : cond (is_some (find nat_cmp c leaves)) 1 0 + length (where_key nat_cmp (λ x. not (eq_by_cmp nat_cmp c x)) leaves) ≡ length leaves = length_without nat_cmp nat_cmp_total c leaves sorted in
      let one : ◌≡◌ {A = ℕ} (cond (is_some (find nat_cmp c leaves)) 1 0) 1 = ap (λ b. cond b 1 0) there in
      let left : length (with_cell leaves c new) ≡ length (where_key nat_cmp (λ x. not (eq_by_cmp nat_cmp c x)) leaves) = ap length (with_cell-where ∙ sym same) in
      omega (arith, whole, one, left)

-- a cell of 512 pages that is not used is the cell that nobody has
pub unused-cell : (cell : CellLeaves) → length cell.parent ≡ 512 → is_used cell ≡ false → cell ≡ unused_cell
unused-cell cell size unused = λ i. record { parent = sym (table-none cell.parent size (left (has_pages cell.parent) _ unused)) i; kept = no_kept cell.kept (right (has_pages cell.parent) _ unused) i }
  where
    left : (a b : Bool) → (a || b) ≡ false → a ≡ false
    left true b e = e
    left false b e = refl

    right : (a b : Bool) → (a || b) ≡ false → b ≡ false
    right true b e = absurd (false≢true (sym e))
    right false b e = e

    no_kept : (kept : List Kept) → not (length kept == 0) ≡ false → kept ≡ []
    no_kept [] e = refl
    no_kept (it ∷ others) e = absurd (false≢true (sym e ∙ ap not (ne_eqb (length (it ∷ others)) 0 (λ l. omega arith))))

-- a cell that stands for leaves that nobody has has no page
pub no-page : (view : CellView) (state : CellState) (made : ℕ) → StandsFor view (record { state = state; made = made }) → state.leaves ≡ unused_cell → (p : ℕ) → parent_page view p ≡ None
no-page view state made stands gone p =
    ap (bytes_in view.frames) (ap (λ versions. version_at versions p) (stands.leaves.parent ∙ ap (λ cell. renamed stands.name cell.parent) gone)
    ∙ version_at-renamed stands.name no_versions p ∙ ap (option_map (stands.name p)) (version_at-none p))

-- and so it stands for what is in the slot of nobody
pub stands-empty : (view : CellView) (state : CellState) (made : ℕ) → StandsFor view (record { state = state; made = made }) → state.leaves ≡ unused_cell → StandsFor view (record { state = empty_state; made = made })
stands-empty view state made stands gone = record {
  name = stands.name;
  leaves = subst (IsRenaming stands.name view.leaves) gone stands.leaves;
  made = subst (AreMade made) gone stands.made;
  pages = λ p small. no-page view state made stands gone p ∙ sym (get-empty nat_cmp p);
  snapshots = λ n p kept found. absurd (none-kept view.leaves.kept n kept (subst (AreKeptAlike stands.name view.leaves.kept) (ap (λ cell. cell.kept) gone) stands.leaves.kept) found);
  whole = stands.whole;
}
  where
    none-kept : (kept : List Kept) (n : ℕ) (it : Kept) → AreKeptAlike stands.name kept [] → kept_by kept n ≡ Some it → ⊥
    none-kept [] n it alike found = false≢true (ap is_some found)
    none-kept (k ∷ others) n it alike found = alike
