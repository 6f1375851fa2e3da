-- The map of the cells: what it has at a cell after an act there, and that it stays in order.
use Rattle.std.proofs.Common.{◌≡◌, ◌≢◌, ℕ, ◌+◌, List, [], ◌∷◌, length, map, Option, Some, None, cond, eqb, refl, sym, ◌∙◌, ap, subst, arith, inl, inr}
use Rattle.std.specs.Prelude.{Bool, true, false, ◌&&◌, ◌||◌, T, is_some, filter, unwrap_or, sum_by}
use Rattle.std.specs.Ordering.{nat_cmp, is_lt, is_eq, eq_by_cmp}
use Rattle.std.proofs.Common.{Ordering, Less, Equal, Greater}
use Rattle.std.proofs.lemmas.List.Sums.{sum_by-cons}
use Rattle.std.specs.Cmp.{nat_cmp_total}
use Rattle.std.specs.List.{AllByRecursion}
use Rattle.std.specs.FinMap.{find, put, is_sorted, nat_cmp-IsAntisymmetric}
use Rattle.std.specs.FinMap.Entries.{find-put, is_sorted-put, below_all, by_order, same_entries, length-put}
use Rattle.std.proofs.lemmas.Bool.{cases_eq, cond-true, cond-false, eq-eqb, ne_eqb}
use Rattle.std.proofs.lemmas.Bool.Decides.{nat_tests}
use Rattle.leaf_cell.specs.CellView.{AreUnjoined}
use Rattle.kernel_meaning.specs.Leaves.{CellLeaves, unused_cell, has_pages}
use Rattle.kernel_meaning.specs.FrameLaw.{Leaves, cell_at, with_cell, is_used, parent_cells}
use Rattle.page_tables.specs.Standing.{AreKept}

-- the numbers are one or not, as the order of numbers has it
pub same_number : (q c : ℕ) → eq_by_cmp nat_cmp q c ≡ eqb q c
same_number q c = grind (arith, nat_tests)

left : (a b : Bool) → T (a && b) → T a
left true b h = tt
left false b h = h

right : (a b : Bool) → T (a && b) → T b
right true b h = h
right false b h = absurd h

both : (a b : Bool) → T a → T b → T (a && b)
both true b h k = k
both false b h k = h

less : (r : Ordering) → T (is_lt r) → r ≡ Less
less Less h = refl
less Equal h = absurd h
less Greater h = absurd h

-- there is something, and it passes a test
abbrev pub passes : {X : Type 0} → (X → Bool) → Option X → Bool
passes test None = false
passes test (Some x) = test x

module _ {X : Type 0} where
  below_less : (x y : ℕ) (es : List (ℕ × X)) → nat_cmp x y ≡ Less → T (below_all nat_cmp y es) → T (below_all nat_cmp x es)
  below_less x y [] e h = tt
  below_less x y (f ∷ es) e h =
      both _ _ (subst (λ r. T (is_lt r)) (sym (nat_cmp_total.trans x y f.0 e (less _ (left _ _ h)))) tt) (below_less x y es e (right _ _ h))

  -- what lies below all entries is not found
  pub missed-below : (q : ℕ) (es : List (ℕ × X)) → T (below_all nat_cmp q es) → find nat_cmp q es ≡ None
  missed-below q [] h = refl
  missed-below q (f ∷ es) h = ap (λ r. cond (is_eq r) (Some f.1) (find nat_cmp q es)) (less _ (left _ _ h)) ∙ missed-below q es (right _ _ h)

  below-tied : (q : ℕ) (f : ℕ × X) (es : List (ℕ × X)) → eq_by_cmp nat_cmp q f.0 ≡ true → T (below_all nat_cmp f.0 es) → T (below_all nat_cmp q es)
  below-tied q f es same h = let here : eqb q f.0 ≡ true = sym (same_number q f.0) ∙ same in let e : q ≡ f.0 = grind (arith, nat_tests) in subst (λ n. T (below_all nat_cmp n es)) (sym e) h

  -- the sum over the entries, where one of them becomes another one or is new
  pub sum-put : (f : Option X → ℕ) → f None ≡ 0 → (k : ℕ) (v : X) (es : List (ℕ × X)) → T (is_sorted nat_cmp es)
      → sum_by (λ e. f (Some e.1)) (put nat_cmp k v es) + f (find nat_cmp k es) ≡ sum_by (λ e. f (Some e.1)) es + f (Some v)
  sum-put f none k v [] h = let gone : f None ≡ 0 = none in omega arith
  sum-put f none k v (e ∷ es) h =
      let g : ℕ × X → ℕ = λ e. f (Some e.1) in
      let whole : sum_by g (e ∷ es) ≡ g e + sum_by g es = sum_by-cons g e es in
      elim (nat_cmp k e.0) as (λ r. nat_cmp k e.0 ≡ r → sum_by g (by_order r ((k, v) ∷ e ∷ es) ((e.0, v) ∷ es) (e ∷ put nat_cmp k v es)) + f
      (cond (is_eq r) (Some e.1) (find nat_cmp k es)) ≡ sum_by g (e ∷ es) + f (Some v)) [
        | Less ↦ λ p.
            let gone : f (find nat_cmp k es) ≡ 0 = ap f (missed-below k es (below_less k e.0 es p (left _ _ h))) ∙ none in
            let more : sum_by g ((k, v) ∷ e ∷ es) ≡ f (Some v) + sum_by g (e ∷ es) = sum_by-cons g (k, v) (e ∷ es) in
            omega arith
        | Equal ↦ λ p. let other : sum_by g ((e.0, v) ∷ es) ≡ f (Some v) + sum_by g es = sum_by-cons g (e.0, v) es in omega arith
        | Greater ↦ λ p.
            let rest : ◌≡◌ {A = ℕ} (sum_by g (put nat_cmp k v es) + f (find nat_cmp k es)) (sum_by g es + f (Some v)) =
            sum-put f none k v es (right (below_all nat_cmp e.0 es) (is_sorted nat_cmp es) h) in
            let more : sum_by g (e ∷ put nat_cmp k v es) ≡ g e + sum_by g (put nat_cmp k v es) = sum_by-cons g e (put nat_cmp k v es) in
            omega arith
      ] refl

  -- a test that each entry passes is passed by each after one more that passes it
  pub all-put : (P : X → Type 0) (k : ℕ) (v : X) (es : List (ℕ × X)) → P v → AllByRecursion (λ e. P e.1) es → AllByRecursion (λ e. P e.1) (put nat_cmp k v es)
  all-put P k v [] new h = (new, h)
  all-put P k v (e ∷ es) new h =
      elim (nat_cmp k e.0) as (λ r. AllByRecursion (λ e. P e.1) (by_order r ((k, v) ∷ e ∷ es) ((e.0, v) ∷ es) (e ∷ put nat_cmp k v es))) [
        | Less ↦ (new, h)
        | Equal ↦ (new, h.1)
        | Greater ↦ (h.0, all-put P k v es new h.1)
      ]

  -- what is found passes the test that all pass
  pub found-passes : (P : X → Type 0) (q : ℕ) (v : X) (es : List (ℕ × X)) → AllByRecursion (λ e. P e.1) es → find nat_cmp q es ≡ Some v → P v
  found-passes P q v [] h e = absurd (subst T (ap is_some (sym e)) tt)
  found-passes P q v (f ∷ es) h e =
      elim (eq_by_cmp nat_cmp q f.0) as (λ b. cond b (Some f.1) (find nat_cmp q es) ≡ Some v → P v) [
        | true ↦ λ e. subst P (ap (λ o. unwrap_or o v) e) h.0
        | false ↦ λ e. found-passes P q v es h.1 e
      ] e

  pub below-filter : (test : X → Bool) (x : ℕ) (es : List (ℕ × X)) → T (below_all nat_cmp x es) → T (below_all nat_cmp x (filter (λ e. test e.1) es))
  below-filter test x [] h = tt
  below-filter test x (f ∷ es) h =
      let rest : T (below_all nat_cmp x (filter (λ e. test e.1) es)) = below-filter test x es (right _ _ h) in
      elim (test f.1) as (λ b. T (below_all nat_cmp x (cond b (f ∷ filter (λ e. test e.1) es) (filter (λ e. test e.1) es)))) [ true ↦ both _ _ (left _ _ h) rest | false ↦ rest ]

  pub sorted-filter : (test : X → Bool) (es : List (ℕ × X)) → T (is_sorted nat_cmp es) → T (is_sorted nat_cmp (filter (λ e. test e.1) es))
  sorted-filter test [] h = tt
  sorted-filter test (f ∷ es) h =
      let rest : T (is_sorted nat_cmp (filter (λ e. test e.1) es)) = sorted-filter test es (right _ _ h) in
      elim (test f.1) as (λ b. T (is_sorted nat_cmp (cond b (f ∷ filter (λ e. test e.1) es) (filter (λ e. test e.1) es)))) [
        | true ↦ both _ _
            (below-filter test f.0 es (left _ _ h)) rest
        | false ↦ rest
      ]

  -- an entry is found among those that pass a test where it is found among all and passes it
  pub is_some-filter : (test : X → Bool) (q : ℕ) (es : List (ℕ × X)) → T (is_sorted nat_cmp es) → is_some (find nat_cmp q (filter (λ e. test e.1) es)) ≡ passes test (find nat_cmp q es)
  is_some-filter test q [] h = refl
  is_some-filter test q (f ∷ es) h =
      let rest : is_some (find nat_cmp q (filter (λ e. test e.1) es)) ≡ passes test (find nat_cmp q es) = is_some-filter test q es (right _ _ h) in
      elim (eq_by_cmp nat_cmp q f.0) as (λ b. eq_by_cmp nat_cmp q f.0 ≡ b → is_some (find nat_cmp q (filter (λ e. test e.1) (f ∷ es))) ≡ passes test (cond b (Some f.1) (find nat_cmp q es))) [
        | true ↦ λ same. elim (test f.1) as (λ t. is_some (find nat_cmp q (cond t (f ∷ filter (λ e. test e.1) es) (filter (λ e. test e.1) es))) ≡ t) [
          | true ↦ ap (λ b. is_some (cond b (Some f.1) (find nat_cmp q (filter (λ e. test e.1) es)))) same
          | false ↦ ap is_some (missed-below q (filter (λ e. test e.1) es) (below-filter test q es (below-tied q f es same (left _ _ h))))
        ]
        | false ↦ λ other. elim (test f.1) as (λ t. is_some (find nat_cmp q (cond t (f ∷ filter (λ e. test e.1) es) (filter (λ e. test e.1) es))) ≡ passes test (find nat_cmp q es)) [
          | true ↦ ap (λ b. is_some (cond b (Some f.1) (find nat_cmp q (filter (λ e. test e.1) es)))) other ∙ rest
          | false ↦ rest
        ]
      ] refl

-- entries without their values
abbrev bare : {X : Type 0} → List (ℕ × X) → List (ℕ × Bool)
bare es = map (λ e. (e.0, true)) es

module _ {X : Type 0} where
  below-bare : (x : ℕ) (es : List (ℕ × X)) → below_all nat_cmp x (bare es) ≡ below_all nat_cmp x es
  below-bare x [] = refl
  below-bare x (f ∷ es) = ap (λ b. is_lt (nat_cmp x f.0) && b) (below-bare x es)

  sorted-bare : (es : List (ℕ × X)) → is_sorted nat_cmp (bare es) ≡ is_sorted nat_cmp es
  sorted-bare [] = refl
  sorted-bare (f ∷ es) = λ i. below-bare f.0 es i && sorted-bare es i

  find-bare : (q : ℕ) (es : List (ℕ × X)) → find nat_cmp q (bare es) ≡ cond (is_some (find nat_cmp q es)) (Some true) None
  find-bare q [] = refl
  find-bare q (f ∷ es) =
      elim (eq_by_cmp nat_cmp q f.0) as (λ b. cond b (Some true) (find nat_cmp q (bare es))
      ≡ cond (is_some (cond b (Some f.1) (find nat_cmp q es))) (Some true) None) [ true ↦ refl | false ↦ find-bare q es ]

  keys-bare : (es : List (ℕ × X)) → map (λ e. e.0) (bare es) ≡ map (λ e. e.0) es
  keys-bare [] = refl
  keys-bare (f ∷ es) = ap (λ xs. f.0 ∷ xs) (keys-bare es)

-- two lists in order that have entries at the same numbers have the same numbers
pub keys-alike : {X Y : Type 0} (es : List (ℕ × X)) (fs : List (ℕ × Y)) → T (is_sorted nat_cmp es) → T (is_sorted nat_cmp fs)
    → ((q : ℕ) → is_some (find nat_cmp q es) ≡ is_some (find nat_cmp q fs)) → map (λ e. e.0) es ≡ map (λ e. e.0) fs
keys-alike es fs h k alike =
    sym (keys-bare es)
    ∙ ap (map (λ e. e.0)) (same_entries nat_cmp nat_cmp_total nat_cmp-IsAntisymmetric (bare es) (bare fs) (subst T (sym (sorted-bare es)) h) (subst T (sym (sorted-bare fs)) k)
    (λ q. find-bare q es ∙ ap (λ b. cond b (Some true) None) (alike q) ∙ sym (find-bare q fs)))
    ∙ keys-bare fs

module _ (leaves : Leaves) (c : ℕ) (new : CellLeaves) (used : is_used new ≡ true) where
  pub with_cell-put : with_cell leaves c new ≡ put nat_cmp c new leaves
  with_cell-put = cond-true (is_used new) _ _ used

  pub find-with_cell : (q : ℕ) → find nat_cmp q (with_cell leaves c new) ≡ cond (eqb q c) (Some new) (find nat_cmp q leaves)
  find-with_cell q = ap (find nat_cmp q) with_cell-put ∙ find-put nat_cmp nat_cmp_total q c new leaves ∙ ap (λ b. cond b (Some new) (find nat_cmp q leaves)) (same_number q c)

  pub find-here : (q : ℕ) → q ≡ c → find nat_cmp q (with_cell leaves c new) ≡ Some new
  find-here q here = find-with_cell q ∙ cond-true (eqb q c) _ _ (eq-eqb q c here)

  pub find-apart : (q : ℕ) → q ≢ c → find nat_cmp q (with_cell leaves c new) ≡ find nat_cmp q leaves
  find-apart q apart = find-with_cell q ∙ cond-false (eqb q c) _ _ (ne_eqb q c apart)

  pub found-with_cell : (q : ℕ) → is_some (find nat_cmp q (with_cell leaves c new)) ≡ (eqb q c || is_some (find nat_cmp q leaves))
  found-with_cell q = ap is_some (find-with_cell q)
      ∙ elim (eqb q c) as (λ b. is_some (cond b (Some new) (find nat_cmp q leaves)) ≡ (b || is_some (find nat_cmp q leaves))) [ true ↦ refl | false ↦ refl ]

  pub cell_at-here : (q : ℕ) → q ≡ c → cell_at (with_cell leaves c new) q ≡ new
  cell_at-here q here = ap (λ o. unwrap_or o unused_cell) (find-here q here)

  pub cell_at-apart : (q : ℕ) → q ≢ c → cell_at (with_cell leaves c new) q ≡ cell_at leaves q
  cell_at-apart q apart = ap (λ o. unwrap_or o unused_cell) (find-apart q apart)

  pub sorted-with_cell : T (is_sorted nat_cmp leaves) → T (is_sorted nat_cmp (with_cell leaves c new))
  sorted-with_cell h = subst (λ ls. T (is_sorted nat_cmp ls)) (sym with_cell-put) (is_sorted-put nat_cmp nat_cmp_total c new leaves h)

  pub in_use-with_cell : AllByRecursion (λ e. is_used e.1 ≡ true) leaves → AllByRecursion (λ e. is_used e.1 ≡ true) (with_cell leaves c new)
  in_use-with_cell h = subst (AllByRecursion (λ e. is_used e.1 ≡ true)) (sym with_cell-put) (all-put (λ cell. is_used cell ≡ true) c new leaves used h)

  pub sizes-with_cell : length new.parent ≡ 512 → ((q : ℕ) → length (cell_at leaves q).parent ≡ 512) → (q : ℕ) → length (cell_at (with_cell leaves c new) q).parent ≡ 512
  sizes-with_cell size sizes q = elim (cases_eq q c) [
    | inl here ↦ ap (λ cell. length cell.parent) (cell_at-here q here) ∙ size
    | inr apart ↦ ap (λ cell. length cell.parent) (cell_at-apart q apart) ∙ sizes q
  ]

  pub unjoined-with_cell : AreUnjoined new.kept → ((q : ℕ) → AreUnjoined (cell_at leaves q).kept) → (q : ℕ) → AreUnjoined (cell_at (with_cell leaves c new) q).kept
  unjoined-with_cell here_too unjoined q = elim (cases_eq q c) [
    | inl here ↦ subst (λ cell. AreUnjoined cell.kept) (sym (cell_at-here q here)) here_too
    | inr apart ↦ subst (λ cell. AreUnjoined cell.kept) (sym (cell_at-apart q apart)) (unjoined q)
  ]

  pub kept-with_cell : length new.parent ≡ 512 → AreUnjoined new.kept → AreKept leaves → AreKept (with_cell leaves c new)
  kept-with_cell size unjoined kept = record {
    sorted = sorted-with_cell kept.sorted;
    in_use = in_use-with_cell kept.in_use;
    sizes = sizes-with_cell size kept.sizes;
    unjoined = unjoined-with_cell unjoined kept.unjoined;
  }

  pub length-with_cell : T (is_sorted nat_cmp leaves) → length (with_cell leaves c new) ≡ cond (is_some (find nat_cmp c leaves)) (length leaves) (length leaves + 1)
  length-with_cell h = ap length with_cell-put ∙ length-put nat_cmp nat_cmp_total c new leaves h

-- a cell with pages is in the map
pub used-found : (leaves : Leaves) (c : ℕ) → is_used (cell_at leaves c) ≡ true → is_some (find nat_cmp c leaves) ≡ true
used-found leaves c used = elim (find nat_cmp c leaves) as (λ o. is_used (unwrap_or o unused_cell) ≡ true → is_some o ≡ true) [ Some cell ↦ λ h. refl | None ↦ λ h. h ] used

-- a cell that is in the map is used
pub found-used : (leaves : Leaves) → AllByRecursion (λ e. is_used e.1 ≡ true) leaves → (c : ℕ) → is_some (find nat_cmp c leaves) ≡ true → is_used (cell_at leaves c) ≡ true
found-used leaves h c there =
    elim (find nat_cmp c leaves) as (λ o. find nat_cmp c leaves ≡ o → is_some o ≡ true → is_used (unwrap_or o unused_cell) ≡ true) [
      | Some cell ↦ λ e t. found-passes (λ it. is_used it ≡ true) c cell leaves h e
      | None ↦ λ e t. absurd (subst T (sym t) tt)
    ] refl there

-- the cells of the parent are in the order of the map
pub parent_cells-alike : (leaves : Leaves) → T (is_sorted nat_cmp leaves) → {X : Type 0} (es : List (ℕ × X)) → T (is_sorted nat_cmp es)
    → ((c : ℕ) → is_some (find nat_cmp c es) ≡ has_pages (cell_at leaves c).parent) → map (λ e. e.0) es ≡ parent_cells leaves
parent_cells-alike leaves h es k alike =
    keys-alike es (filter (λ e. has_pages e.1.parent) leaves) k (sorted-filter (λ cell. has_pages cell.parent) leaves h)
    (λ q. alike q ∙ sym (is_some-filter (λ cell. has_pages cell.parent) q leaves h ∙ passed q))
  where
    passed : (q : ℕ) → passes (λ cell. has_pages cell.parent) (find nat_cmp q leaves) ≡ has_pages (cell_at leaves q).parent
    passed q = elim (find nat_cmp q leaves) as (λ o. passes (λ cell. has_pages cell.parent) o ≡ has_pages (unwrap_or o unused_cell).parent) [ Some cell ↦ refl | None ↦ refl ]
