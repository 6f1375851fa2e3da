-- The map of the cells behind a drop.
use Rattle.std.proofs.Common.{◌≡◌, ◌≢◌, ℕ, List, [], ◌∷◌, length, map, Some, None, cond, eqb, refl, sym, ◌∙◌, ap, subst, arith, inl, inr}
use Rattle.std.specs.Prelude.{Bool, true, false, not, T, ◌||◌, ◌&&◌, ◌==◌, is_some, filter, unwrap_or}
use Rattle.std.specs.Ordering.{nat_cmp}
use Rattle.std.specs.List.{AllByRecursion}
use Rattle.std.specs.FinMap.{find, is_sorted, nat_cmp-IsAntisymmetric}
use Rattle.std.specs.FinMap.Entries.{below_all, is_sorted-where_key, find-where_key}
use Rattle.std.proofs.lemmas.Bool.{cases_eq, cond-false, eq-eqb, ne_eqb, false≢true}
use Rattle.kernel_meaning.specs.Leaves.{CellLeaves, Kept, no_versions, unused_cell, has_pages, kept_by, without_kept}
use Rattle.kernel_meaning.specs.FrameLaw.{Leaves, cell_at, with_cell, is_used, snapshot_cells}
use Rattle.kernel_meaning.specs.EventRequests.{without_snapshot_at}
use Rattle.leaf_cell.specs.CellView.{AreUnjoined, without_snapshot}
use Rattle.leaf_cell.proofs.Without.{table-none}
use Rattle.page_tables.specs.Standing.{AreKept}
use Rattle.page_tables.proofs.LeafMap.{same_number, missed-below, passes, sorted-filter, is_some-filter, cell_at-here, cell_at-apart, kept-with_cell}

left : (a b : Bool) → T (a && b) → T a
left true b h = tt
left false b h = h

right : (a b : Bool) → T (a && b) → T b
right true b h = h
right false b h = absurd h

-- ---- a cell that nobody has any more

no-kept : (kept : List Kept) → not (length kept == 0) ≡ false → kept ≡ []
no-kept [] e = refl
no-kept (it ∷ others) e = absurd (false≢true (sym e ∙ ap not (ne_eqb (length (it ∷ others)) 0 (λ e. omega (arith, e)))))

or-first : (a b : Bool) → (a || b) ≡ false → a ≡ false
or-first true b e = e
or-first false b e = refl

or-second : (a b : Bool) → (a || b) ≡ false → b ≡ false
or-second true b e = absurd (false≢true (sym e))
or-second false b e = e

-- nobody has it: no page, and no snapshot
pub unused-pages : (cell : CellLeaves) → is_used cell ≡ false → has_pages cell.parent ≡ false
unused-pages cell unused = or-first (has_pages cell.parent) (not (length cell.kept == 0)) unused

pub unused-is : (cell : CellLeaves) → is_used cell ≡ false → length cell.parent ≡ 512 → cell ≡ unused_cell
unused-is cell unused size =
    let pages : cell.parent ≡ no_versions = sym (table-none cell.parent size (unused-pages cell unused)) in
    let kept : cell.kept ≡ [] = no-kept cell.kept (or-second (has_pages cell.parent) (not (length cell.kept == 0)) unused) in
    λ i. record { parent = pages i; kept = kept i }

-- ---- a cell that becomes another one, which nobody may have

module _ (leaves : Leaves) (c : ℕ) (new : CellLeaves) where
  abbrev others : ℕ → Bool
  others x = not (eqb x c)

  find-left : is_used new ≡ false → (q : ℕ) → find nat_cmp q (with_cell leaves c new) ≡ cond (not (eqb q c)) (find nat_cmp q leaves) None
  find-left unused q = ap (find nat_cmp q) (cond-false (is_used new) _ _ unused)
      ∙ find-where_key nat_cmp others q (λ x e. ap others (sym (nat_cmp-IsAntisymmetric q x e))) leaves

  pub left-here : length new.parent ≡ 512 → (q : ℕ) → q ≡ c → cell_at (with_cell leaves c new) q ≡ new
  left-here size q same = by (is_used new) refl
    where
      by : (b : Bool) → is_used new ≡ b → cell_at (with_cell leaves c new) q ≡ new
      by true used = cell_at-here leaves c new used q same
      by false unused = ap (λ o. unwrap_or o unused_cell) (find-left unused q ∙ ap (λ b. cond (not b) (find nat_cmp q leaves) None) (eq-eqb q c same)) ∙ sym (unused-is new unused size)

  pub left-apart : (q : ℕ) → q ≢ c → cell_at (with_cell leaves c new) q ≡ cell_at leaves q
  left-apart q apart = by (is_used new) refl
    where
      by : (b : Bool) → is_used new ≡ b → cell_at (with_cell leaves c new) q ≡ cell_at leaves q
      by true used = cell_at-apart leaves c new used q apart
      by false unused = ap (λ o. unwrap_or o unused_cell) (find-left unused q ∙ ap (λ b. cond (not b) (find nat_cmp q leaves) None) (ne_eqb q c apart))

  all-left : (P : CellLeaves → Type 0) (es : Leaves) → AllByRecursion (λ e. P e.1) es → AllByRecursion (λ e. P e.1) (filter (λ e. others e.0) es)
  all-left P [] h = tt
  all-left P (e ∷ es) h = elim (others e.0) as
      (λ b. AllByRecursion (λ e. P e.1) (cond b (e ∷ filter (λ e. others e.0) es) (filter (λ e. others e.0) es))) [ true ↦ (h.0, all-left P es h.1) | false ↦ all-left P es h.1 ]

  pub kept-left : length new.parent ≡ 512 → AreUnjoined new.kept → AreKept leaves → AreKept (with_cell leaves c new)
  kept-left size unjoined kept = by (is_used new) refl
    where
      by : (b : Bool) → is_used new ≡ b → AreKept (with_cell leaves c new)
      by true used = kept-with_cell leaves c new used size unjoined kept
      by false unused = record {
        sorted = subst (λ ls. T (is_sorted nat_cmp ls)) (sym (cond-false (is_used new) _ _ unused)) (is_sorted-where_key nat_cmp others leaves kept.sorted);
        in_use = subst (AllByRecursion (λ e. is_used e.1 ≡ true)) (sym (cond-false (is_used new) _ _ unused)) (all-left (λ cell. is_used cell ≡ true) leaves kept.in_use);
        sizes = λ q. elim (cases_eq q c) [
          | inl same ↦ ap (λ cell. length cell.parent) (left-here size q same) ∙ size
          | inr apart ↦ ap (λ cell. length cell.parent) (left-apart q apart) ∙ kept.sizes q
        ];
        unjoined = λ q. elim (cases_eq q c) [
          | inl same ↦ subst (λ cell. AreUnjoined cell.kept) (sym (left-here size q same)) unjoined
          | inr apart ↦ subst (λ cell. AreUnjoined cell.kept) (sym (left-apart q apart)) (kept.unjoined q)
        ];
      }

-- ---- the drop

unjoined-without : (n : ℕ) (kept : List Kept) → AreUnjoined kept → AreUnjoined (without_kept n kept)
unjoined-without n [] h = tt
unjoined-without n (it ∷ others) h = elim (it.number == n) as
    (λ b. AreUnjoined (cond (not b) (it ∷ without_kept n others) (without_kept n others))) [ true ↦ unjoined-without n others h.1 | false ↦ (h.0, unjoined-without n others h.1) ]

-- a snapshot that does not have a cell is not missed there
not-missed : (n : ℕ) (kept : List Kept) → is_some (kept_by kept n) ≡ false → without_kept n kept ≡ kept
not-missed n [] none = refl
not-missed n (it ∷ others) none = elim (it.number == n) as (λ b. is_some (cond b (Some it) (kept_by others n)) ≡ false
    → cond (not b) (it ∷ without_kept n others) (without_kept n others) ≡ it ∷ others) [
      | true ↦ λ e. absurd (false≢true (sym e))
      | false ↦ λ e. ap (λ ks. it ∷ ks) (not-missed n others e)
    ] none

pub kept-dropped : (n : ℕ) (cells : List ℕ) (leaves : Leaves) → AreKept leaves → AreKept (without_snapshot_at cells n leaves)
kept-dropped n [] leaves kept = kept
kept-dropped n (c ∷ cells) leaves kept =
    kept-dropped n cells (with_cell leaves c (without_snapshot n (cell_at leaves c)))
    (kept-left leaves c (without_snapshot n (cell_at leaves c)) (kept.sizes c) (unjoined-without n (cell_at leaves c).kept (kept.unjoined c)) kept)

dropped-cell : (n : ℕ) {X : Type 0} (fs : List (ℕ × X)) → T (is_sorted nat_cmp fs) → (leaves : Leaves) → AreKept leaves → (c : ℕ)
    → cell_at (without_snapshot_at (map (λ f. f.0) fs) n leaves) c ≡ cond (is_some (find nat_cmp c fs)) (without_snapshot n (cell_at leaves c)) (cell_at leaves c)
dropped-cell n [] h leaves kept c = refl
dropped-cell n {X} (f ∷ fs) h leaves kept c =
    let new : CellLeaves = without_snapshot n (cell_at leaves f.0) in
    let next : Leaves = with_cell leaves f.0 new in
    dropped-cell n fs (right _ _ h) next (kept-left leaves f.0 new (kept.sizes f.0) (unjoined-without n (cell_at leaves f.0).kept (kept.unjoined f.0)) kept) c
    ∙ elim (cases_eq c f.0) [
      | inl same ↦
          let gone : find nat_cmp c fs ≡ None = missed-below c fs (subst (λ q. T (below_all nat_cmp q fs)) (sym same) (left _ _ h)) in
          let found : is_some (find nat_cmp c (f ∷ fs)) ≡ true = ap (λ b. is_some (cond b (Some f.1) (find nat_cmp c fs))) (same_number c f.0 ∙ eq-eqb c f.0 same) in
          ap (λ o. cond (is_some o) (without_snapshot n (cell_at next c)) (cell_at next c)) gone
          ∙ left-here leaves f.0 new (kept.sizes f.0) c same ∙ ap (λ q. without_snapshot n (cell_at leaves q)) (sym same)
          ∙ sym (ap (λ b. cond b (without_snapshot n (cell_at leaves c)) (cell_at leaves c)) found)
      | inr apart ↦
          let found : is_some (find nat_cmp c (f ∷ fs)) ≡ is_some (find nat_cmp c fs) = ap (λ b. is_some (cond b (Some f.1) (find nat_cmp c fs))) (same_number c f.0 ∙ ne_eqb c f.0 apart) in
          ap (λ cell. cond (is_some (find nat_cmp c fs)) (without_snapshot n cell) cell) (left-apart leaves f.0 new c apart)
          ∙ sym (ap (λ b. cond b (without_snapshot n (cell_at leaves c)) (cell_at leaves c)) found)
    ]

-- each cell is without the snapshot
pub cell-dropped : (n : ℕ) (leaves : Leaves) → AreKept leaves → (c : ℕ) → cell_at (without_snapshot_at (snapshot_cells leaves n) n leaves) c ≡ without_snapshot n (cell_at leaves c)
cell-dropped n leaves kept c =
    dropped-cell n (filter (λ e. is_some (kept_by e.1.kept n)) leaves) (sorted-filter (λ cell. is_some (kept_by cell.kept n)) leaves kept.sorted) leaves kept c
    ∙ ap (λ b. cond b (without_snapshot n (cell_at leaves c)) (cell_at leaves c)) (is_some-filter (λ cell. is_some (kept_by cell.kept n)) c leaves kept.sorted ∙ passed)
    ∙ elim (is_some (kept_by (cell_at leaves c).kept n)) as (λ b. is_some (kept_by (cell_at leaves c).kept n) ≡ b
    → cond b (without_snapshot n (cell_at leaves c)) (cell_at leaves c) ≡ without_snapshot n (cell_at leaves c)) [
      | true ↦ λ e. refl
      | false ↦ λ e. ap (λ kept. record (cell_at leaves c) { kept = kept }) (sym (not-missed n (cell_at leaves c).kept e))
    ] refl
  where
    passed : passes (λ cell. is_some (kept_by cell.kept n)) (find nat_cmp c leaves) ≡ is_some (kept_by (cell_at leaves c).kept n)
    passed = elim (find nat_cmp c leaves) as (λ o. passes (λ cell. is_some (kept_by cell.kept n)) o ≡ is_some (kept_by (unwrap_or o unused_cell).kept n)) [ Some cell ↦ refl | None ↦ refl ]
