-- The cells in which one of some pages is present, and what one of them less leaves.
use Rattle.std.proofs.Common.{◌≡◌, ◌≢◌, ℕ, ◌+◌, ◌*◌, ◌/◌, ◌<◌, ◌≤◌, List, [], ◌∷◌, Option, Some, None, cond, refl, sym, ◌∙◌, ap, subst, arith, inl, inr}
use Rattle.std.specs.Prelude.{Bool, true, false, T, ◌&&◌, is_some, filter, unwrap_or}
use Rattle.std.specs.Ordering.{nat_cmp}
use Rattle.std.specs.FinMap.{find, is_sorted}
use Rattle.std.specs.FinMap.Entries.{below_all}
use Rattle.std.proofs.lemmas.Bool.{cases_eq, false≢true}
use Rattle.kernel_meaning.specs.Leaves.{CellLeaves, unused_cell, has_present, has_pages}
use Rattle.kernel_meaning.specs.FrameLaw.{Leaves, cell_at, with_cell, is_used}
use Rattle.kernel_meaning.specs.EventRequests.{changed_cells, first_in_cell, count_in_cell}
use Rattle.leaf_cell.proofs.AbsentPages.{has_present-never}
use Rattle.page_tables.specs.Clearing.{has_some}
use Rattle.page_tables.proofs.LeafMap.{passes, missed-below, keys-alike, cell_at-apart}
use Rattle.page_tables.proofs.GoneCell.{cell_at-stays}
use Rattle.page_tables.proofs.FirstCell.{find-head, find-tail, all-above}
use Rattle.page_tables.proofs.ClearedCell.{present-pages}

left : (a b : Bool) → T (a && b) → T a
left true b h = tt
left false b h = h

right : (a b : Bool) → T (a && b) → T b
right true b h = h
right false b h = absurd h

both : (a b : Bool) → T a → T b → T (a && b)
both true b h k = k
both false b h k = h

module _ {X : Type 0} (test : ℕ → X → Bool) where
  abbrev pub those : List (ℕ × X) → List (ℕ × X)
  those es = filter (λ e. test e.0 e.1) es

  below-those : (x : ℕ) (es : List (ℕ × X)) → T (below_all nat_cmp x es) → T (below_all nat_cmp x (those es))
  below-those x [] h = tt
  below-those x (f ∷ es) h =
      let rest : T (below_all nat_cmp x (those es)) = below-those x es (right _ _ h) in
      elim (test f.0 f.1) as (λ b. T (below_all nat_cmp x (cond b (f ∷ those es) (those es)))) [ true ↦ both _ _ (left _ _ h) rest | false ↦ rest ]

  pub sorted-those : (es : List (ℕ × X)) → T (is_sorted nat_cmp es) → T (is_sorted nat_cmp (those es))
  sorted-those [] h = tt
  sorted-those (f ∷ es) h =
      let rest : T (is_sorted nat_cmp (those es)) = sorted-those es (right _ _ h) in
      elim (test f.0 f.1) as (λ b. T (is_sorted nat_cmp (cond b (f ∷ those es) (those es)))) [ true ↦ both _ _ (below-those f.0 es (left _ _ h)) rest | false ↦ rest ]

  -- an entry is found among them where it is found among all and passes the test
  pub is_some-those : (q : ℕ) (es : List (ℕ × X)) → T (is_sorted nat_cmp es) → is_some (find nat_cmp q (those es)) ≡ passes (test q) (find nat_cmp q es)
  is_some-those q [] h = refl
  is_some-those q (f ∷ es) h = elim (cases_eq q f.0) [
    | inl same ↦
        let gone : find nat_cmp q (those es) ≡ None = missed-below q (those es) (below-those q es (subst (λ n. T (below_all nat_cmp n es)) (sym same) (left _ _ h))) in
        elim (test f.0 f.1) as (λ b. is_some (find nat_cmp q (cond b (f ∷ those es) (those es))) ≡ b) [
          | true ↦ ap is_some (find-head q f (those es) same)
          | false ↦ ap is_some gone
        ]
        ∙ ap (λ n. test n f.1) (sym same) ∙ sym (ap (passes (test q)) (find-head q f es same))
    | inr apart ↦
        elim (test f.0 f.1) as (λ b. is_some (find nat_cmp q (cond b (f ∷ those es) (those es))) ≡ is_some (find nat_cmp q (those es))) [
          | true ↦ ap is_some (find-tail q f (those es) apart)
          | false ↦ refl
        ]
        ∙ is_some-those q es (right _ _ h) ∙ sym (ap (passes (test q)) (find-tail q f es apart))
  ]

-- no cell of a number below those of the pages has one of them
pub none-before : (first n c : ℕ) (cell : CellLeaves) → c < first / 512 → has_some first n c cell ≡ false
none-before first n c cell lt = ap (λ k. has_present cell.parent (first_in_cell c first) k) none
  where
    none : count_in_cell c first n ≡ 0
    none = omega (arith, lt)

-- nor one of a number above
pub none-behind : (first n c : ℕ) (cell : CellLeaves) → first + n ≤ c * 512 → has_some first n c cell ≡ false
none-behind first n c cell le = ap (λ k. has_present cell.parent (first_in_cell c first) k) none
  where
    none : count_in_cell c first n ≡ 0
    none = omega (arith, le)

-- nor one without pages
pub none-empty : (first n c : ℕ) (cell : CellLeaves) → has_pages cell.parent ≡ false → has_some first n c cell ≡ false
none-empty first n c cell empty = by (has_some first n c cell) refl
  where
    by : (b : Bool) → has_some first n c cell ≡ b → b ≡ false
    by false e = refl
    by true e = absurd (false≢true (sym empty ∙ present-pages cell.parent (first_in_cell c first) (count_in_cell c first n) e))

module _ (first n : ℕ) where
  pub found-changed : (leaves : Leaves) → T (is_sorted nat_cmp leaves) → (q : ℕ) → is_some (find nat_cmp q (those (has_some first n) leaves)) ≡ has_some first n q (cell_at leaves q)
  found-changed leaves h q = is_some-those (has_some first n) q leaves h
      ∙ elim (find nat_cmp q leaves) as (λ o. passes (has_some first n q) o ≡ has_some first n q (unwrap_or o unused_cell)) [ Some cell ↦ refl | None ↦ sym (has_present-never (first_in_cell q first) (count_in_cell q first n)) ]

  -- no cell has one of the pages
  pub unchanged : (leaves : Leaves) → T (is_sorted nat_cmp leaves) → ((q : ℕ) → has_some first n q (cell_at leaves q) ≡ false) → changed_cells leaves first n ≡ []
  unchanged leaves h none = let nothing : List (ℕ × CellLeaves) = [] in keys-alike (those (has_some first n) leaves) nothing (sorted-those (has_some first n) leaves h) tt (λ q. found-changed leaves h q ∙ none q)

  -- one cell has one, and behind it others may
  pub one-less : (leaves later : Leaves) (c : ℕ) → T (is_sorted nat_cmp leaves) → T (is_sorted nat_cmp later) → has_some first n c (cell_at leaves c) ≡ true → ((q : ℕ) → q < c → has_some first n q (cell_at leaves q) ≡ false)
      → ((q : ℕ) → q ≢ c → cell_at later q ≡ cell_at leaves q) → has_some first n c (cell_at later c) ≡ false → changed_cells leaves first n ≡ c ∷ changed_cells later first n
  one-less leaves later c h k here before others gone =
      keys-alike (those (has_some first n) leaves) ((c, unused_cell) ∷ those (has_some first n) later) (sorted-those (has_some first n) leaves h)
      (both _ _ (all-above c (those (has_some first n) later) (sorted-those (has_some first n) later k) (λ q le. none q (now q le))) (sorted-those (has_some first n) later k))
      alike
    where
      now : (q : ℕ) → q ≤ c → has_some first n q (cell_at later q) ≡ false
      now q le = elim (cases_eq q c) [
        | inl same ↦ ap (λ m. has_some first n m (cell_at later m)) same ∙ gone
        | inr apart ↦ ap (has_some first n q) (others q apart) ∙ before q (omega (arith, le, apart))
      ]

      none : (q : ℕ) → has_some first n q (cell_at later q) ≡ false → find nat_cmp q (those (has_some first n) later) ≡ None
      none q e = by (find nat_cmp q (those (has_some first n) later)) (found-changed later k q ∙ e)
        where
          by : (o : Option CellLeaves) → is_some o ≡ false → o ≡ None
          by None e = refl
          by (Some cell) e = absurd (false≢true (sym e))

      alike : (q : ℕ) → is_some (find nat_cmp q (those (has_some first n) leaves)) ≡ is_some (find nat_cmp q ((c, unused_cell) ∷ those (has_some first n) later))
      alike q = elim (cases_eq q c) [
        | inl same ↦ found-changed leaves h q ∙ ap (λ m. has_some first n m (cell_at leaves m)) same ∙ here ∙ sym (ap is_some (find-head q (c, unused_cell) (those (has_some first n) later) same))
        | inr apart ↦ found-changed leaves h q ∙ ap (has_some first n q) (sym (others q apart)) ∙ sym (found-changed later k q)
            ∙ sym (ap is_some (find-tail q (c, unused_cell) (those (has_some first n) later) apart))
      ]

-- another cell is what it was
pub cell-apart : (leaves : Leaves) (c : ℕ) (new : CellLeaves) (q : ℕ) → q ≢ c → cell_at (with_cell leaves c new) q ≡ cell_at leaves q
cell-apart leaves c new q apart = elim (is_used new) as (λ b. is_used new ≡ b → cell_at (with_cell leaves c new) q ≡ cell_at leaves q) [
  | true ↦ λ used. cell_at-apart leaves c new used q apart
  | false ↦ λ unused. cell_at-stays leaves c new unused q apart
] refl
