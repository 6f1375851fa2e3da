-- Pages that are taken out of the parent leave all others as they are.
use Rattle.std.proofs.Common.{◌≡◌, ◌≢◌, ℕ, ◌+◌, ◌/◌, ◌%◌, [], ◌∷◌, ◌++◌, length, take, drop, None, cond, eqb, refl, sym, ◌∙◌, ap, subst, arith, inl, inr}
use Rattle.std.specs.Prelude.{true, false, not, ◌||◌, ◌==◌, is_some, replicate, unwrap_or, zero, suc}
use Rattle.std.specs.Ordering.{nat_cmp}
use Rattle.std.specs.FinMap.{find, nat_cmp-IsAntisymmetric}
use Rattle.std.specs.FinMap.Entries.{find-where_key}
use Rattle.std.proofs.lemmas.Bool.{cases_eq, cases_Bool, cond-false, eq-eqb, ne_eqb}
use Rattle.vm_base.specs.Places.{cell_of}
use Rattle.kernel_meaning.specs.Leaves.{Versions, CellLeaves, unused_cell, version_at, without_versions, has_pages}
use Rattle.kernel_meaning.specs.FrameLaw.{Leaves, cell_at, with_cell, is_used}
use Rattle.kernel_meaning.specs.EventRequests.{page_version, without_page}
use Rattle.leaf_cell.specs.Touching.{IsAlone}
use Rattle.page_tables.specs.Accesses.{IsPageReady}
use Rattle.page_tables.proofs.LeafMap.{cell_at-here, cell_at-apart}
use Rattle.page_tables.proofs.TouchShapes.{page-there}
use Rattle.page_tables.proofs.ParentPages.{version-absent}

-- one page of a table is taken out
version-cleared : (versions : Versions) (p q : ℕ) → q ≢ p → version_at (without_versions versions p 1) q ≡ version_at versions q
version-cleared [] zero zero apart = absurd (apart refl)
version-cleared [] zero (suc q) apart = refl
version-cleared [] (suc p) zero apart = refl
version-cleared [] (suc p) (suc q) apart = ap (λ n. version_at (None ∷ drop n []) (suc q)) (let e : suc p + 1 ≡ suc (p + 1) = omega arith in e)
version-cleared (version ∷ versions) zero zero apart = absurd (apart refl)
version-cleared (version ∷ versions) zero (suc q) apart = refl
version-cleared (version ∷ versions) (suc p) zero apart = refl
version-cleared (version ∷ versions) (suc p) (suc q) apart =
    ap (λ n. version_at ((take p versions ++ replicate 1 None) ++ drop n (version ∷ versions)) q) (let e : suc p + 1 ≡ suc (p + 1) = omega arith in e)
    ∙ version-cleared versions p q (λ e. apart (ap suc e))

module _ (leaves : Leaves) (c : ℕ) (new : CellLeaves) where
  -- a cell that nobody has goes from the map
  gone : is_used new ≡ false → (q : ℕ) → find nat_cmp q (with_cell leaves c new) ≡ cond (not (eqb q c)) (find nat_cmp q leaves) None
  gone unused q =
      ap (find nat_cmp q) (cond-false (is_used new) _ _ unused)
      ∙ find-where_key nat_cmp (λ n. not (eqb n c)) q (λ x e. ap (λ n. not (eqb n c)) (sym (nat_cmp-IsAntisymmetric q x e))) leaves

  -- another cell stays as it is, whatever becomes of one
  pub other-cell : (q : ℕ) → q ≢ c → cell_at (with_cell leaves c new) q ≡ cell_at leaves q
  other-cell q apart = elim (cases_Bool (is_used new)) [
    | inl used ↦ cell_at-apart leaves c new used q apart
    | inr unused ↦ ap (λ o. unwrap_or o unused_cell) (gone unused q ∙ ap (λ b. cond (not b) (find nat_cmp q leaves) None) (ne_eqb q c apart))
  ]

  no-pages : is_used new ≡ false → has_pages new.parent ≡ false
  no-pages unused = elim (has_pages new.parent) as (λ b. (b || not (length new.kept == 0)) ≡ false → b ≡ false) [ true ↦ λ e. e | false ↦ λ e. refl ] unused

  -- the versions of the cell itself are the new ones
  pub same-versions : (page : ℕ) → version_at (cell_at (with_cell leaves c new) c).parent page ≡ version_at new.parent page
  same-versions page = elim (cases_Bool (is_used new)) [
    | inl used ↦ ap (λ cell. version_at cell.parent page) (cell_at-here leaves c new used c refl)
    | inr unused ↦
        ap (λ o. version_at (unwrap_or o unused_cell).parent page) (gone unused c ∙ ap (λ b. cond (not b) (find nat_cmp c leaves) None) (eq-eqb c c refl))
        ∙ no-version page ∙ sym (version-absent new page (no-pages unused))
  ]
    where
      no-version : (p : ℕ) → version_at unused_cell.parent p ≡ None
      no-version p = version-absent unused_cell p refl

  -- a cell with a page is as it was made
  pub same-cell : has_pages new.parent ≡ true → cell_at (with_cell leaves c new) c ≡ new
  same-cell there = cell_at-here leaves c new (ap (λ b. b || not (length new.kept == 0)) there) c refl

other-place : (p q : ℕ) → q ≢ p → cell_of q ≡ cell_of p → q % 512 ≢ p % 512
other-place p q apart same e = apart (let s : q / 512 ≡ p / 512 = same in omega arith)

-- a page that is taken out leaves each other one its version
pub version-left : (leaves : Leaves) (p q : ℕ) → q ≢ p → page_version (without_page p leaves) q ≡ page_version leaves q
version-left leaves p q apart = elim (cases_eq (cell_of q) (cell_of p)) [
  | inl same ↦
      ap (λ n. version_at (cell_at (without_page p leaves) n).parent (q % 512)) same
      ∙ same-versions leaves (cell_of p) (record (cell_at leaves (cell_of p)) { parent = without_versions (cell_at leaves (cell_of p)).parent (p % 512) 1 }) (q % 512)
      ∙ version-cleared (cell_at leaves (cell_of p)).parent (p % 512) (q % 512) (other-place p q apart same)
      ∙ ap (λ n. version_at (cell_at leaves n).parent (q % 512)) (sym same)
  | inr other ↦ ap (λ cell. version_at cell.parent (q % 512))
      (other-cell leaves (cell_of p) (record (cell_at leaves (cell_of p)) { parent = without_versions (cell_at leaves (cell_of p)).parent (p % 512) 1 }) (cell_of q) other)
]

-- and where that may be stored to, it still may
pub ready-left : (leaves : Leaves) (p q : ℕ) → q ≢ p → IsPageReady leaves q → IsPageReady (without_page p leaves) q
ready-left leaves p q apart ready = elim (cases_eq (cell_of q) (cell_of p)) [
  | inl same ↦
      let new : CellLeaves = record (cell_at leaves (cell_of p)) { parent = without_versions (cell_at leaves (cell_of p)).parent (p % 512) 1 } in
      let was : IsAlone (cell_at leaves (cell_of p)) (q % 512) = subst (λ n. IsAlone (cell_at leaves n) (q % 512)) same ready in
      let kept : version_at new.parent (q % 512) ≡ version_at (cell_at leaves (cell_of p)).parent (q % 512) =
      version-cleared (cell_at leaves (cell_of p)).parent (p % 512) (q % 512) (other-place p q apart same) in
      let alone : IsAlone new (q % 512) = record { present = ap is_some kept ∙ was.present; unnamed = λ version e. was.unnamed version (sym kept ∙ e) } in
      subst (λ n. IsAlone (cell_at (without_page p leaves) n) (q % 512)) (sym same)
      (subst (λ cell. IsAlone cell (q % 512)) (sym (same-cell leaves (cell_of p) new (page-there new (q % 512) alone.present))) alone)
  | inr other ↦ subst (λ cell. IsAlone cell (q % 512))
      (sym (other-cell leaves (cell_of p) (record (cell_at leaves (cell_of p)) { parent = without_versions (cell_at leaves (cell_of p)).parent (p % 512) 1 }) (cell_of q) other)) ready
]
