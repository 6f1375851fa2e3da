-- The one snapshot that may live, as the maps of the world have it; and a cell that becomes what it is.
use Rattle.std.proofs.Common.{◌≡◌, ℕ, ◌+◌, Option, Some, None, cond, eqb, refl, sym, ◌∙◌, ap, arith, inl, inr}
use Rattle.std.specs.Prelude.{Bool, true, false, not, ◌==◌, is_some, filter, unwrap_or}
use Rattle.std.specs.Ordering.{nat_cmp, eq_by_cmp}
use Rattle.std.specs.Cmp.{nat_cmp_total}
use Rattle.std.specs.FinMap.{FinMap, empty, get, insert, remove, len, contains_key, same_map, find, put, nat_cmp-IsAntisymmetric, get-empty, get-insert, get-remove, len-empty, len-insert}
use Rattle.std.specs.FinMap.Entries.{find-put, is_sorted-put, find-where_key, is_sorted-where_key, same_entries}
use Rattle.std.proofs.lemmas.Bool.{cases_Bool, cases_eq, cond-true, cond-false, eq-eqb, ne_eqb, false≢true}
use Rattle.std.proofs.lemmas.Bool.Decides.{nat_tests}
use Rattle.vm_base.specs.FlatMemory.{PageMap, FlatMemory}
use Rattle.kernel_meaning.specs.Leaves.{holds_number, unused_cell}
use Rattle.kernel_meaning.specs.FrameLaw.{Leaves, cell_at, with_cell, is_used}
use Rattle.page_tables.specs.Standing.{AreKept}
use Rattle.page_tables.proofs.LeafMap.{same_number, used-found, found-used}
use Rattle.trace_core.specs.declared.parts.SnapshotAreas.{SnapshotAreas}
use Rattle.trace_core.specs.KernelStanding.{kept_memories, kept_counts, kept_number}

-- ---- maps of one entry

module _ {X : Type 0} where
  get-one : (k : ℕ) (v : X) (q : ℕ) → get (insert (empty {R = nat_cmp}) k v) q ≡ cond (eqb q k) (Some v) None
  get-one k v q = get-insert nat_cmp_total empty k v q ∙ (λ i. cond (same_number q k i) (Some v) (get-empty {X = X} nat_cmp q i))

  pub get-inserted : (m : FinMap nat_cmp X) (k : ℕ) (v : X) → get (insert m k v) k ≡ Some v
  get-inserted m k v = get-insert nat_cmp_total m k v k ∙ ap (λ b. cond b (Some v) (get m k)) (same_number k k ∙ eq-eqb k k refl)

  len-one : (k : ℕ) (v : X) → len (insert (empty {R = nat_cmp}) k v) ≡ 1
  len-one k v = len-insert nat_cmp_total empty k v ∙ (λ i. cond (is_some (get-empty {X = X} nat_cmp k i)) (len-empty nat_cmp X i) (len-empty nat_cmp X i + 1))

  remove-one : (k : ℕ) (v : X) → remove (insert (empty {R = nat_cmp}) k v) k ≡ empty
  remove-one k v = same_map nat_cmp_total nat_cmp-IsAntisymmetric _ empty (λ q.
      get-remove nat_cmp_total (insert empty k v) k q
      ∙ ap (cond (eq_by_cmp nat_cmp q k) None) (get-insert nat_cmp_total empty k v q ∙ ap (cond (eq_by_cmp nat_cmp q k) (Some v)) (get-empty nat_cmp q))
      ∙ elim (eq_by_cmp nat_cmp q k) as (λ b. ◌≡◌ {A = Option X} (cond b None (cond b (Some v) None)) None) [ true ↦ refl | false ↦ refl ] ∙ sym (get-empty nat_cmp q))

-- a count that is told anew
pub insert-same : (m : FinMap nat_cmp ℕ) (k : ℕ) → contains_key m k ≡ true → insert m k (unwrap_or (get m k) 0) ≡ m
insert-same m k there = same_map nat_cmp_total nat_cmp-IsAntisymmetric _ m (λ q.
    get-insert nat_cmp_total m k (unwrap_or (get m k) 0) q ∙ elim (cases_Bool (eq_by_cmp nat_cmp q k)) [
      | inl same ↦
          let number : q ≡ k = (let t : eqb q k ≡ true = sym (same_number q k) ∙ same in grind (arith, nat_tests)) in
          ap (λ b. cond b (Some (unwrap_or (get m k) 0)) (get m q)) same ∙ whole (get m k) there ∙ ap (get m) (sym number)
      | inr apart ↦ ap (λ b. cond b (Some (unwrap_or (get m k) 0)) (get m q)) apart
    ])
  where
    whole : (o : Option ℕ) → is_some o ≡ true → Some (unwrap_or o 0) ≡ o
    whole None none = absurd (false≢true none)
    whole (Some v) there = refl

-- ---- the snapshot that lives

-- where there is nothing
pub nothing-there : {X : Type 0} (o : Option X) → is_some o ≡ false → o ≡ None
nothing-there None none = refl
nothing-there (Some x) none = absurd (false≢true (sym none))

some-is : {X : Type 0} (v : X) (a b : Bool) → a ≡ b → is_some (cond a (Some v) None) ≡ b
some-is v true b same = same
some-is v false b same = same

-- it lives under its number alone
pub live-is : (snapshot : Option SnapshotAreas) (pages : FinMap nat_cmp PageMap) (memories : FinMap nat_cmp FlatMemory) → kept_memories snapshot pages memories
    → (n : ℕ) → contains_key memories n ≡ holds_number (kept_number snapshot) n
live-is None pages memories none n = ap (λ m. contains_key m n) none ∙ ap is_some (get-empty nat_cmp n)
live-is (Some kept) pages memories its n =
    ap (λ m. contains_key m n) its.1.1 ∙ ap is_some (get-one kept.number _ n) ∙ some-is _ (eqb n kept.number) (kept.number == n) (grind (arith, nat_tests))

-- and has its count
pub counted-is : (snapshot : Option SnapshotAreas) (n : ℕ) → contains_key (kept_counts snapshot) n ≡ holds_number (kept_number snapshot) n
counted-is None n = ap is_some (get-empty nat_cmp n)
counted-is (Some kept) n = ap is_some (get-one kept.number kept.refused n) ∙ some-is kept.refused (eqb n kept.number) (kept.number == n) (grind (arith, nat_tests))

-- how many live
pub lives-len : (snapshot : Option SnapshotAreas) (pages : FinMap nat_cmp PageMap) (memories : FinMap nat_cmp FlatMemory) → kept_memories snapshot pages memories
    → len memories ≡ cond (is_some snapshot) 1 0
lives-len None pages memories none = ap len none ∙ len-empty nat_cmp FlatMemory
lives-len (Some kept) pages memories its = ap len its.1.1 ∙ len-one kept.number _

-- without it there is none
pub none-left : (snapshot : Option SnapshotAreas) (pages : FinMap nat_cmp PageMap) (memories : FinMap nat_cmp FlatMemory) → kept_memories snapshot pages memories
    → (n : ℕ) → holds_number (kept_number snapshot) n ≡ true → remove memories n ≡ empty
none-left None pages memories none n live = absurd (false≢true live)
none-left (Some kept) pages memories its n live =
    let number : kept.number ≡ n = (let t : eqb kept.number n ≡ true = live in grind (arith, nat_tests)) in
    ap (remove memories) (sym number) ∙ ap (λ m. remove m kept.number) its.1.1 ∙ remove-one kept.number _

pub no-count-left : (snapshot : Option SnapshotAreas) (n : ℕ) → holds_number (kept_number snapshot) n ≡ true → remove (kept_counts snapshot) n ≡ empty
no-count-left None n live = absurd (false≢true live)
no-count-left (Some kept) n live =
    let number : kept.number ≡ n = (let t : eqb kept.number n ≡ true = live in grind (arith, nat_tests)) in
    ap (remove (kept_counts (Some kept))) (sym number) ∙ remove-one kept.number kept.refused

-- the number of the one that lives
pub number-is : (number : Option ℕ) (n : ℕ) → holds_number number n ≡ true → number ≡ Some n
number-is None n live = absurd (false≢true live)
number-is (Some other) n live = let same : other ≡ n = (let t : eqb other n ≡ true = live in grind (arith, nat_tests)) in ap Some same

-- ---- a cell that becomes what it is

pub same-cell : (leaves : Leaves) → AreKept leaves → (c : ℕ) → with_cell leaves c (cell_at leaves c) ≡ leaves
same-cell leaves kept c = by (is_used (cell_at leaves c)) refl
  where
    found-is : (q : ℕ) → is_used (cell_at leaves c) ≡ true → cond (eq_by_cmp nat_cmp q c) (Some (cell_at leaves c)) (find nat_cmp q leaves) ≡ find nat_cmp q leaves
    found-is q used = elim (cases_Bool (eq_by_cmp nat_cmp q c)) [
      | inl same ↦
          let number : q ≡ c = (let t : eqb q c ≡ true = sym (same_number q c) ∙ same in grind (arith, nat_tests)) in
          ap (λ b. cond b (Some (cell_at leaves c)) (find nat_cmp q leaves)) same ∙ whole (find nat_cmp c leaves) (used-found leaves c used) ∙ ap (λ q. find nat_cmp q leaves) (sym number)
      | inr apart ↦ ap (λ b. cond b (Some (cell_at leaves c)) (find nat_cmp q leaves)) apart
    ]
      where
        whole : (o : Option _) → is_some o ≡ true → Some (unwrap_or o unused_cell) ≡ o
        whole None none = absurd (false≢true none)
        whole (Some v) there = refl

    missed-is : (q : ℕ) → is_used (cell_at leaves c) ≡ false → cond (not (eqb q c)) (find nat_cmp q leaves) None ≡ find nat_cmp q leaves
    missed-is q unused = elim (cases_eq q c) [
      | inl same ↦ ap (λ b. cond (not b) (find nat_cmp q leaves) None) (eq-eqb q c same) ∙ sym (ap (λ q. find nat_cmp q leaves) same ∙ gone (find nat_cmp c leaves) refl)
      | inr apart ↦ ap (λ b. cond (not b) (find nat_cmp q leaves) None) (ne_eqb q c apart)
    ]
      where
        gone : (o : Option _) → find nat_cmp c leaves ≡ o → find nat_cmp c leaves ≡ None
        gone None is = is
        gone (Some v) is = absurd (false≢true (sym unused ∙ found-used leaves kept.in_use c (ap is_some is)))

    by : (b : Bool) → is_used (cell_at leaves c) ≡ b → with_cell leaves c (cell_at leaves c) ≡ leaves
    by true used = cond-true (is_used (cell_at leaves c)) _ _ used
        ∙ same_entries nat_cmp nat_cmp_total nat_cmp-IsAntisymmetric (put nat_cmp c (cell_at leaves c) leaves) leaves (is_sorted-put nat_cmp nat_cmp_total c (cell_at leaves c) leaves kept.sorted) kept.sorted
        (λ q. find-put nat_cmp nat_cmp_total q c (cell_at leaves c) leaves ∙ found-is q used)
    by false unused = cond-false (is_used (cell_at leaves c)) _ _ unused
        ∙ same_entries nat_cmp nat_cmp_total nat_cmp-IsAntisymmetric (filter (λ e. not (eqb e.0 c)) leaves) leaves (is_sorted-where_key nat_cmp (λ x. not (eqb x c)) leaves kept.sorted) kept.sorted
        (λ q. find-where_key nat_cmp (λ x. not (eqb x c)) q (λ x e. ap (λ x. not (eqb x c)) (sym (nat_cmp-IsAntisymmetric q x e))) leaves ∙ missed-is q unused)
