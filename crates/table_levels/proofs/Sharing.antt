-- Which tables the cells of a directory share.
use Rattle.std.proofs.Common.{◌≡◌, ℕ, ◌/◌, ◌%◌, ◌^◌, ◌<◌, Bool, true, false, not, List, [], ◌∷◌, ◌++◌, Some, None, Option, refl, sym, ◌∙◌, ap, subst, arith, inl, inr}
use Rattle.std.specs.Prelude.{IsSome, is_some}
use Rattle.std.specs.List.{list_any}
use Rattle.std.specs.Option.{option_and_then}
use Rattle.std.specs.Ordering.{nat_cmp, eq_by_cmp}
use Rattle.std.specs.FinMap.{get, keys, contains_key-keys}
use Rattle.std.proofs.lemmas.Bool.{cases_lt, cases_Bool, false≢true, true≢false}
use Rattle.std.proofs.lemmas.Bool.Decides.{nat_tests}
use Rattle.vm_base.specs.declared.frame_request.Want.{Want}
use Rattle.vm_base.specs.declared.frame_request.Want.TheVariants.{Top, Upper, Middle}
use Rattle.table_levels.specs.Cells.{CellMap}
use Rattle.table_levels.specs.Requests.{shares, unless, missing_tables, wanted_if, wanted_tables}
use Rattle.table_levels.specs.Walks.{Place, Levels, entry_in, table_at, middle_of, slot_of, directory_cells, NamesUppers, IsDirectory}
use Rattle.table_levels.proofs.CellLemmas.{get_below, get_beyond}
use Rattle.table_levels.proofs.Counting.{shares_from, shares_to, missing_beside}

bool_same : (a b : Bool) → (a ≡ true → b ≡ true) → (b ≡ true → a ≡ true) → a ≡ b
bool_same true true to back = refl
bool_same true false to back = sym (to refl)
bool_same false true to back = back refl
bool_same false false to back = refl

pub and_then_some : {X Y : Type 0} (f : X → Option Y) (o : Option X) → IsSome (option_and_then f o) → IsSome o
and_then_some f None there = absurd (false≢true there)
and_then_some f (Some x) there = refl

-- ---- keys and cells
pub cell_of_key : (levels : Levels) (c : ℕ) → IsSome (get (directory_cells levels) c) → (c < 2 ^ 27) × IsSome (slot_of levels c)
cell_of_key levels c there = elim (cases_lt c (2 ^ 27)) [
  | inl lt ↦ (lt, subst IsSome (get_below (2 ^ 27) (slot_of levels) c lt) there)
  | inr le ↦ absurd (false≢true (subst IsSome (get_beyond (2 ^ 27) (slot_of levels) c le) there))
]

pub key_of_cell : (levels : Levels) (c : ℕ) → c < 2 ^ 27 → IsSome (slot_of levels c) → IsSome (get (directory_cells levels) c)
key_of_cell levels c lt there = subst IsSome (sym (get_below (2 ^ 27) (slot_of levels) c lt)) there

pub middle_of_slot : (levels : Levels) (c : ℕ) → IsSome (slot_of levels c) → IsSome (middle_of levels (c / 512))
middle_of_slot levels c there = and_then_some (λ m. entry_in (table_at levels.middles m) (c % 512)) (middle_of levels (c / 512)) there

pub upper_of_middle : (levels : Levels) (index : ℕ) → IsSome (middle_of levels index) → IsSome (entry_in levels.top (index / 512))
upper_of_middle levels index there = and_then_some (λ u. entry_in (table_at levels.uppers u) (index % 512)) (entry_in levels.top (index / 512)) there

pub table_of_entry : (p : Place) (i : ℕ) → IsSome (entry_in p i) → is_some p ≡ true
table_of_entry None i there = absurd (false≢true there)
table_of_entry (Some table) i there = refl

-- each table and each middle table's name has a cell under it
pub record IsUsed (levels : Levels) : Type 0 where
  pub upper_there : NamesUppers levels.top levels.uppers
  pub top_used : IsSome levels.top → (i : ℕ) × (i < 512) × IsSome (entry_in levels.top i)
  pub upper_used : (i : ℕ) → IsSome (table_at levels.uppers i) → (index : ℕ) × (index < 2 ^ 18) × (index / 512 ≡ i) × IsSome (middle_of levels index)
  pub middle_used : (index : ℕ) → index < 2 ^ 18 → IsSome (middle_of levels index) → (cell : ℕ) × (cell < 2 ^ 27) × (cell / 512 ≡ index) × IsSome (slot_of levels cell)

pub used : (levels : Levels) (n : ℕ) → IsDirectory levels n → IsUsed levels
used levels n directory =
    record { upper_there = directory.upper_there; top_used = directory.top_used; upper_used = directory.upper_used; middle_used = directory.middle_used }

-- a cell under an entry of the top table
slot_under : (levels : Levels) → IsUsed levels → (i : ℕ) → i < 512 → (found : Option ℕ) → entry_in levels.top i ≡ found → IsSome found
    → (c : ℕ) × (c < 2 ^ 27) × (c / 512 / 512 ≡ i) × IsSome (slot_of levels c)
slot_under levels directory i inside None entry there = absurd (false≢true there)
slot_under levels directory i inside (Some u) entry there =
    let under = directory.upper_used i (directory.upper_there i u inside entry).1 in
    let cell = directory.middle_used under.0 under.1 under.3 in
    (cell.0, cell.1, ap (λ index. index / 512) cell.2 ∙ under.2, cell.3)

pub upper_shared : (levels : Levels) → IsUsed levels → (cell : ℕ) → cell < 2 ^ 27
    → shares (2 ^ 18) (keys (directory_cells levels)) cell ≡ is_some (entry_in levels.top (cell / 512 / 512))
upper_shared levels directory cell below = bool_same _ _
    (λ shared.
    let other = shares_to (directory_cells levels) (2 ^ 18) cell shared in
    let known = cell_of_key levels other.0 other.1 in
    let same : other.0 / 512 / 512 ≡ cell / 512 / 512 = omega (arith, other.2) in
    subst (λ i. IsSome (entry_in levels.top i)) same (upper_of_middle levels (other.0 / 512) (middle_of_slot levels other.0 known.1)))
    (λ there.
    let other = slot_under levels directory (cell / 512 / 512) (omega arith) (entry_in levels.top (cell / 512 / 512)) refl there in
    let same : other.0 / 2 ^ 18 ≡ cell / 2 ^ 18 = omega (arith, other.2) in
    shares_from (directory_cells levels) (2 ^ 18) cell other.0 (key_of_cell levels other.0 other.1 other.3) same)

pub middle_shared : (levels : Levels) → IsUsed levels → (cell : ℕ) → cell < 2 ^ 27
    → shares (2 ^ 9) (keys (directory_cells levels)) cell ≡ is_some (middle_of levels (cell / 512))
middle_shared levels directory cell below = bool_same _ _
    (λ shared.
    let other = shares_to (directory_cells levels) (2 ^ 9) cell shared in
    let known = cell_of_key levels other.0 other.1 in
    subst (λ index. IsSome (middle_of levels index)) other.2 (middle_of_slot levels other.0 known.1))
    (λ there.
    let other = directory.middle_used (cell / 512) (omega arith) there in
    shares_from (directory_cells levels) (2 ^ 9) cell other.0 (key_of_cell levels other.0 other.1 other.3) other.2)

-- ---- what is missing
no_key : (m : CellMap) (c : ℕ) → keys m ≡ [] → IsSome (get m c) → ⊥
no_key m c none there = false≢true (sym (ap (list_any (eq_by_cmp nat_cmp c)) none) ∙ sym (contains_key-keys m c) ∙ there)

first_key : (m : CellMap) (c : ℕ) (cs : List ℕ) → keys m ≡ c ∷ cs → IsSome (get m c)
first_key m c cs some = contains_key-keys m c ∙ ap (list_any (eq_by_cmp nat_cmp c)) some ∙ first_test
  where
    first_test : list_any (eq_by_cmp nat_cmp c) (c ∷ cs) ≡ true
    first_test = grind (arith, nat_tests)

wanted_unless : (there : Bool) (want : Want) → wanted_if (not there) want ≡ unless there want
wanted_unless true want = refl
wanted_unless false want = refl

no_entry : (p : Place) (i : ℕ) → is_some p ≡ false → is_some (entry_in p i) ≡ false
no_entry None i none = refl
no_entry (Some table) i none = absurd (true≢false none)

pub top_there : (levels : Levels) (c : ℕ) (cs : List ℕ) → keys (directory_cells levels) ≡ c ∷ cs → is_some levels.top ≡ true
top_there levels c cs some =
    let known = cell_of_key levels c (first_key (directory_cells levels) c cs some) in
    table_of_entry levels.top (c / 512 / 512) (upper_of_middle levels (c / 512) (middle_of_slot levels c known.1))

pub top_absent : (levels : Levels) → IsUsed levels → keys (directory_cells levels) ≡ [] → is_some levels.top ≡ false
top_absent levels directory none = elim (cases_Bool (is_some levels.top)) [
  | inl there ↦
      let used = directory.top_used there in
      let other = slot_under levels directory used.0 used.1 (entry_in levels.top used.0) refl used.2 in
      absurd (no_key (directory_cells levels) other.0 none (key_of_cell levels other.0 other.1 other.3))
  | inr absent ↦ absent
]

-- the tables that are asked for are those that the definition misses
pub wanted_are_missing : (levels : Levels) → IsUsed levels → (cell : ℕ) → cell < 2 ^ 27 → middle_of levels (cell / 512) ≡ None
    → wanted_tables (record { top = not (is_some levels.top); upper = not (is_some (entry_in levels.top (cell / 512 / 512))); middle = true }) ≡ missing_tables (keys (directory_cells levels)) cell
wanted_are_missing levels directory cell below absent = by_keys (keys (directory_cells levels)) refl
  where
    by_keys : (ks : List ℕ) → keys (directory_cells levels) ≡ ks
        → wanted_tables (record { top = not (is_some levels.top); upper = not (is_some (entry_in levels.top (cell / 512 / 512))); middle = true }) ≡ missing_tables ks cell
    by_keys [] at =
        let none = top_absent levels directory at in
        ap (λ b. wanted_if (not b) Top ++ (wanted_if (not (is_some (entry_in levels.top (cell / 512 / 512)))) Upper ++ Middle ∷ [])) none
        ∙ ap (λ b. Top ∷ (wanted_if (not b) Upper ++ Middle ∷ [])) (no_entry levels.top (cell / 512 / 512) none)
    by_keys (k ∷ ks) at =
        let upper : shares (2 ^ 18) (k ∷ ks) cell ≡ is_some (entry_in levels.top (cell / 512 / 512)) = ap (λ l. shares (2 ^ 18) l cell) (sym at) ∙ upper_shared levels directory cell below in
        let middle : shares (2 ^ 9) (k ∷ ks) cell ≡ false = ap (λ l. shares (2 ^ 9) l cell) (sym at) ∙ middle_shared levels directory cell below ∙ ap is_some absent in
        ap (λ b. wanted_if (not b) Top ++ (wanted_if (not (is_some (entry_in levels.top (cell / 512 / 512)))) Upper ++ Middle ∷ [])) (top_there levels k ks at)
        ∙ ap (λ l. l ++ Middle ∷ []) (wanted_unless (is_some (entry_in levels.top (cell / 512 / 512))) Upper ∙ ap (λ b. unless b Upper) (sym upper))
        ∙ ap (λ b. unless (shares (2 ^ 18) (k ∷ ks) cell) Upper ++ unless b Middle) (sym middle) ∙ sym (missing_beside k ks cell)

pub nothing_missing : (levels : Levels) → IsUsed levels → (cell : ℕ) → cell < 2 ^ 27 → IsSome (middle_of levels (cell / 512)) → missing_tables (keys (directory_cells levels)) cell ≡ []
nothing_missing levels directory cell below there = by_keys (keys (directory_cells levels)) refl
  where
    by_keys : (ks : List ℕ) → keys (directory_cells levels) ≡ ks → missing_tables ks cell ≡ []
    by_keys [] at =
        let other = directory.middle_used (cell / 512) (omega arith) there in
        absurd (no_key (directory_cells levels) other.0 at (key_of_cell levels other.0 other.1 other.3))
    by_keys (k ∷ ks) at =
        let upper : shares (2 ^ 18) (k ∷ ks) cell ≡ true = ap (λ l. shares (2 ^ 18) l cell) (sym at) ∙ upper_shared levels directory cell below ∙ upper_of_middle levels (cell / 512) there in
        let middle : shares (2 ^ 9) (k ∷ ks) cell ≡ true = ap (λ l. shares (2 ^ 9) l cell) (sym at) ∙ middle_shared levels directory cell below ∙ there in
        missing_beside k ks cell ∙ ap (λ b. unless b Upper ++ unless (shares (2 ^ 9) (k ∷ ks) cell) Middle) upper ∙ ap (λ b. unless b Middle) middle
