-- What the list of losses has of a cell.
use Rattle.std.proofs.Common.{◌≡◌, ℕ, ◌≤◌, List, [], ◌∷◌, ◌++◌, length, Option, Some, None, cond, eqb, refl, sym, ◌∙◌, ap, subst, arith, inl, inr}
use Rattle.std.specs.Prelude.{Bool, true, false, ◌==◌, ◌&&◌, is_some, T, unwrap_or, flat_map}
use Rattle.std.specs.Ordering.{nat_cmp, eq_by_cmp}
use Rattle.std.specs.Option.{option_or, option_and_then}
use Rattle.std.specs.FinMap.{find, is_sorted}
use Rattle.std.specs.FinMap.Entries.{below_all}
use Rattle.std.proofs.lemmas.Bool.{cases_Bool, false≢true, cond-true, cond-false}
use Rattle.std.proofs.lemmas.Bool.Decides.{nat_tests}
use Rattle.std.proofs.lemmas.List.{append-nil}
use Rattle.std.proofs.lemmas.List.Concat.{flat_map-cons}
use Rattle.vm_base.specs.TwoSides.{Loss, loss_of}
use Rattle.kernel_meaning.specs.Leaves.{CellLeaves, Kept, kept_by, loss_at, unused_cell}
use Rattle.kernel_meaning.specs.FrameLaw.{Leaves, cell_at, loss_list, losses_of}
use Rattle.leaf_cell.proofs.Renamed.{eqb-refl}
use Rattle.page_tables.proofs.LeafMap.{same_number, missed-below}

left : (a b : Bool) → T (a && b) → T a
left true b h = tt
left false b h = h

right : (a b : Bool) → T (a && b) → T b
right true b h = h
right false b h = absurd h

-- the count at which a snapshot lost a cell, where it has lost it
abbrev pub loss_in : List Kept → ℕ → Option ℕ
loss_in kept n = option_and_then (λ it. loss_at it.leaf) (kept_by kept n)

-- the losses at one cell
abbrev losses_at : ℕ → List Kept → List Loss
losses_at c kept = flat_map (λ it. loss_list c it.number (loss_at it.leaf)) kept

loss_of-append : (xs ys : List Loss) (n c : ℕ) → loss_of (xs ++ ys) n c ≡ option_or (loss_of xs n c) (loss_of ys n c)
loss_of-append [] ys n c = refl
loss_of-append (x ∷ xs) ys n c =
    elim ((x.snapshot == n) && (x.cell == c)) as (λ b. cond b (Some x.at) (loss_of (xs ++ ys) n c)
    ≡ option_or (cond b (Some x.at) (loss_of xs n c)) (loss_of ys n c)) [ true ↦ refl | false ↦ loss_of-append xs ys n c ]

and-false : (a : Bool) → (a && false) ≡ false
and-false true = refl
and-false false = refl

module _ (n c : ℕ) where
  list-other : (q m : ℕ) (o : Option ℕ) → (q == c) ≡ false → loss_of (loss_list q m o) n c ≡ None
  list-other q m None other = refl
  list-other q m (Some at) other = cond-false ((m == n) && (q == c)) _ _ (ap (λ b. (m == n) && b) other ∙ and-false (m == n))

  at-other : (q : ℕ) (kept : List Kept) → (q == c) ≡ false → loss_of (losses_at q kept) n c ≡ None
  at-other q [] other = refl
  at-other q (it ∷ others) other =
      ap (λ ls. loss_of ls n c) (flat_map-cons (λ it. loss_list q it.number (loss_at it.leaf)) it others)
      ∙ loss_of-append (loss_list q it.number (loss_at it.leaf)) (losses_at q others) n c
      ∙ ap (λ o. option_or o (loss_of (losses_at q others) n c)) (list-other q it.number (loss_at it.leaf) other) ∙ at-other q others other

  list-here : (m : ℕ) (o : Option ℕ) → loss_of (loss_list c m o) n c ≡ cond (m == n) o None
  list-here m None = elim (m == n) as (λ b. ◌≡◌ {A = Option ℕ} None (cond b None None)) [ true ↦ refl | false ↦ refl ]
  list-here m (Some at) = ap (λ b. cond ((m == n) && b) (Some at) None) (eqb-refl c) ∙ elim (m == n) as (λ b. cond (b && true) (Some at) None ≡ cond b (Some at) None) [ true ↦ refl | false ↦ refl ]

  at-here : (kept : List Kept) → length kept ≤ 1 → loss_of (losses_at c kept) n c ≡ loss_in kept n
  at-here [] few = refl
  at-here (it ∷ []) few = ap (λ ls. loss_of ls n c) (append-nil (loss_list c it.number (loss_at it.leaf))) ∙ list-here it.number (loss_at it.leaf)
      ∙ elim (it.number == n) as (λ b. cond b (loss_at it.leaf) None ≡ option_and_then (λ it. loss_at it.leaf) (cond b (Some it) None)) [ true ↦ refl | false ↦ refl ]
  at-here (it ∷ other ∷ rest) few = absurd (omega arith)

  losses_of-cons : (e : ℕ × CellLeaves) (es : Leaves) → loss_of (losses_of (e ∷ es)) n c ≡ option_or (loss_of (losses_at e.0 e.1.kept) n c) (loss_of (losses_of es) n c)
  losses_of-cons e es = ap (λ ls. loss_of ls n c) (flat_map-cons (λ entry. losses_at entry.0 entry.1.kept) e es) ∙ loss_of-append (losses_at e.0 e.1.kept) (losses_of es) n c

  -- a cell that nobody has is not lost
  missing-unlost : (leaves : Leaves) → find nat_cmp c leaves ≡ None → loss_of (losses_of leaves) n c ≡ None
  missing-unlost [] none = refl
  missing-unlost (e ∷ es) none = elim (cases_Bool (eq_by_cmp nat_cmp c e.0)) [
    | inl same ↦ absurd (false≢true (sym (ap is_some (sym (cond-true (eq_by_cmp nat_cmp c e.0) (Some e.1) (find nat_cmp c es) same) ∙ none))))
    | inr apart ↦
        let other : (e.0 == c) ≡ false = (let t : eqb c e.0 ≡ false = sym (same_number c e.0) ∙ apart in grind (arith, nat_tests)) in
        losses_of-cons e es ∙ ap (λ o. option_or o (loss_of (losses_of es) n c)) (at-other e.0 e.1.kept other)
        ∙ missing-unlost es (sym (cond-false (eq_by_cmp nat_cmp c e.0) (Some e.1) (find nat_cmp c es) apart) ∙ none)
  ]

  nothing-more : (o : Option ℕ) → option_or o None ≡ o
  nothing-more None = refl
  nothing-more (Some x) = refl

  -- what is lost at a cell where at most one snapshot is
  pub loss-in-leaves : (leaves : Leaves) → T (is_sorted nat_cmp leaves) → length (cell_at leaves c).kept ≤ 1 → loss_of (losses_of leaves) n c ≡ loss_in (cell_at leaves c).kept n
  loss-in-leaves [] sorted few = refl
  loss-in-leaves (e ∷ es) sorted few = elim (cases_Bool (eq_by_cmp nat_cmp c e.0)) [
    | inl same ↦
        let here : c ≡ e.0 = (let t : eqb c e.0 ≡ true = sym (same_number c e.0) ∙ same in grind (arith, nat_tests)) in
        let cell : cell_at (e ∷ es) c ≡ e.1 = ap (λ b. unwrap_or (cond b (Some e.1) (find nat_cmp c es)) unused_cell) same in
        let rest : find nat_cmp c es ≡ None = missed-below c es (subst (λ q. T (below_all nat_cmp q es)) (sym here) (left _ _ sorted)) in
        losses_of-cons e es ∙ ap (option_or (loss_of (losses_at e.0 e.1.kept) n c)) (missing-unlost es rest) ∙ nothing-more (loss_of (losses_at e.0 e.1.kept) n c)
        ∙ ap (λ q. loss_of (losses_at q e.1.kept) n c) (sym here) ∙ at-here e.1.kept (subst (λ cell. length cell.kept ≤ 1) cell few) ∙ ap (λ cell. loss_in cell.kept n) (sym cell)
    | inr apart ↦
        let other : (e.0 == c) ≡ false = (let t : eqb c e.0 ≡ false = sym (same_number c e.0) ∙ apart in grind (arith, nat_tests)) in
        let cell : cell_at (e ∷ es) c ≡ cell_at es c = ap (λ b. unwrap_or (cond b (Some e.1) (find nat_cmp c es)) unused_cell) apart in
        losses_of-cons e es ∙ ap (λ o. option_or o (loss_of (losses_of es) n c)) (at-other e.0 e.1.kept other)
        ∙ loss-in-leaves es (right _ _ sorted) (subst (λ cell. length cell.kept ≤ 1) cell few) ∙ ap (λ cell. loss_in cell.kept n) (sym cell)
  ]
