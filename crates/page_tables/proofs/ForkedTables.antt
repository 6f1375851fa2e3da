-- The tables behind a fork.
use Rattle.std.proofs.Common.{◌≡◌, ℕ, ◌+◌, ◌*◌, ◌<◌, ◌≤◌, List, [], ◌∷◌, ◌++◌, length, map, replicate, Option, Some, None, Err, cond, refl, sym, ◌∙◌, ap, subst, arith, inl, inr}
use Rattle.std.specs.Prelude.{Bool, true, false, ◌||◌, ◌==◌, is_some}
use Rattle.std.specs.Ordering.{nat_cmp}
use Rattle.std.specs.Option.{option_and_then}
use Rattle.std.specs.List.{list_any, slice_get}
use Rattle.std.specs.FinMap.{get, find, insert, keys}
use Rattle.std.proofs.lemmas.Bool.{cases_eq, eq-eqb, ne_eqb, false≢true}
use Rattle.vm_base.specs.declared.fork_mode.Mode.TheVariants.{Eager}
use Rattle.vm_base.specs.declared.frame_request.Want.{Want}
use Rattle.vm_base.specs.declared.frame_request.Want.TheVariants as want
use Rattle.vm_base.specs.Deals.{Deal, LeadsAlong}
use Rattle.vm_base.specs.FlatMemory.{PageMap}
use Rattle.vm_base.proofs.NumberedMaps.{get_inserted_here, get_inserted_apart}
use Rattle.kernel_meaning.specs.Leaves.{Own, has_pages, with_kept}
use Rattle.kernel_meaning.specs.CellActs.{with_fork}
use Rattle.kernel_meaning.specs.FrameLaw.{Leaves, cell_at, is_used, parent_cells}
use Rattle.kernel_meaning.specs.EventRequests.{with_fork_at, snapshot_forked, fork_wants}
use Rattle.table_levels.specs.Cells.{CellMap}
use Rattle.table_levels.specs.Requests.{Asks, directory_wants, granted}
use Rattle.page_tables.specs.declared.slot.Slot.{Slot}
use Rattle.page_tables.specs.declared.tables.SnapshotTables.{SnapshotTables}
use Rattle.page_tables.specs.declared.tables.PageTables.{PageTables}
use Rattle.page_tables.specs.Sides.{Sides}
use Rattle.page_tables.specs.Standing.{owner_at, AreKept, AreCellsOf, StandFor, TablesStandFor}
use Rattle.page_tables.specs.Forking.{AllBecome, Becomes, forked_count, forked_leaves, forked_state, same_leaves, same_state, snapshots_with, MadeOfSnapshots}
use Rattle.page_tables.proofs.Room.{directory-cells}
use Rattle.page_tables.proofs.Changing.{undoes-fork}
use Rattle.page_tables.proofs.StandingFacts.{found-is-used, no-numbers, no-page, owners-same, slots-become, forks-counted}
use Rattle.page_tables.proofs.ForkedLeaves.{used-as-before, kept-forked, cell-forked}
use Rattle.page_tables.proofs.ForkWants.{same-fork, fork-runs, unforked-runs}
use Rattle.page_tables.proofs.Rows.{deals_up_to}

module _ (directory : CellMap) (slots : List Slot) (sides : Sides) (st : StandFor directory None slots sides) where
  -- no snapshot lives
  none-lives : (m : ℕ) → get sides.snapshots m ≡ None
  none-lives m = by (get sides.snapshots m) (st.snapshot_of.live m)
    where
      by : (o : Option PageMap) → is_some o ≡ false → o ≡ None
      by None e = refl
      by (Some pages) e = absurd (false≢true (sym e))

  module _ (n : ℕ) (new : List Slot) (become : AllBecome (forked_leaves n) (forked_state n) slots new) where
    abbrev leaves_then : Leaves
    leaves_then = with_fork_at (parent_cells sides.leaves) n Eager sides.leaves

    abbrev tables_then : Option SnapshotTables
    tables_then = Some (record { number = n; directory = directory })

    abbrev sides_then : ℕ → Sides
    sides_then later = record { leaves = leaves_then; pages = sides.pages; snapshots = insert sides.snapshots n sides.pages; made = later }

    cell_then : (c : ℕ) → cell_at leaves_then c ≡ forked_leaves n (cell_at sides.leaves c)
    cell_then c = cell-forked n sides.leaves st.kept.sorted c

    kept_then : AreKept leaves_then
    kept_then = kept-forked n (parent_cells sides.leaves) sides.leaves st.kept

    found_then : (c : ℕ) → is_some (find nat_cmp c leaves_then) ≡ is_some (find nat_cmp c sides.leaves)
    found_then c = found-is-used leaves_then kept_then c ∙ ap is_used (cell_then c) ∙ used-as-before n (cell_at sides.leaves c) ∙ sym (found-is-used sides.leaves st.kept c)

    alone : (c : ℕ) → (cell_at sides.leaves c).kept ≡ []
    alone c = no-numbers (cell_at sides.leaves c).kept (st.snapshot_of.numbers c)

    owner_then : (t : ℕ) → owner_at new t ≡ owner_at slots t
    owner_then = owners-same slots new become.size (λ s slot here. let it : (it : Slot) × ((slice_get new s ≡ Some it) × Becomes (forked_leaves n) (forked_state n) slot it) =
        become.each s slot here in (it.0, (it.1.0, it.1.1.owner)))

    parent_then : (c : ℕ) → (cell_at leaves_then c).parent ≡ (cell_at sides.leaves c).parent
    parent_then c = ap (λ cell. cell.parent) (cell_then c)
        ∙ elim (has_pages (cell_at sides.leaves c).parent) as
        (λ b. (cond b (with_fork n Eager Own (cell_at sides.leaves c)) (cell_at sides.leaves c)).parent ≡ (cell_at sides.leaves c).parent) [ true ↦ refl | false ↦ refl ]

    -- a page of a snapshot at a cell
    abbrev page_at : ℕ → ℕ → Option PageMap → Option (List ℕ)
    page_at c p pages = option_and_then (λ it. get it (c * 512 + p)) pages

    snapshots_then : (m c p : ℕ) → p < 512 → (b : Bool) → has_pages (st.cells c).leaves.parent ≡ b
        → option_and_then (λ it. get it p)
        (get (cond b (record { leaves = with_fork n Eager Own (st.cells c).leaves; pages = (st.cells c).pages; snapshots = insert (st.cells c).snapshots n (st.cells c).pages })
        (st.cells c)).snapshots m)
        ≡ page_at c p (get (insert sides.snapshots n sides.pages) m)
    snapshots_then m c p small true there = elim (cases_eq m n) [
      | inl same ↦ ap (option_and_then (λ it. get it p)) (get_inserted_here (st.cells c).snapshots n (st.cells c).pages m same) ∙ st.each.pages c p small
          ∙ sym (ap (page_at c p) (get_inserted_here sides.snapshots n sides.pages m same))
      | inr apart ↦ ap (option_and_then (λ it. get it p)) (get_inserted_apart (st.cells c).snapshots n (st.cells c).pages m apart) ∙ st.each.snapshots m c p small
          ∙ sym (ap (page_at c p) (get_inserted_apart sides.snapshots n sides.pages m apart))
    ]
    snapshots_then m c p small false none = st.each.snapshots m c p small ∙ ap (page_at c p) (none-lives m) ∙ elim (cases_eq m n) [
      | inl same ↦ sym (ap (page_at c p) (get_inserted_here sides.snapshots n sides.pages m same)
          ∙ no-page directory None slots sides st c p (ap (λ cell. has_pages cell.parent) (sym (st.each.leaves c)) ∙ none) small)
      | inr apart ↦ sym (ap (page_at c p) (get_inserted_apart sides.snapshots n sides.pages m apart ∙ none-lives m))
    ]

    each_then : (later : ℕ) → AreCellsOf (sides_then later) (λ c. forked_state n (st.cells c))
    each_then later = record {
      leaves = λ c. (undoes-fork n).same_leaves_there (st.cells c) ∙ ap (forked_leaves n) (st.each.leaves c) ∙ sym (cell_then c);
      pages = λ c p small. ap (λ it. get it p) ((undoes-fork n).same_pages_there (st.cells c)) ∙ st.each.pages c p small;
      snapshots = λ m c p small. snapshots_then m c p small (has_pages (st.cells c).leaves.parent) refl;
    }

    numbers_then : (c : ℕ) → map (λ it. it.number) (cell_at leaves_then c).kept ≡ cond (is_some (get directory c)) (n ∷ []) []
    numbers_then c =
        ap (λ cell. map (λ it. it.number) cell.kept) (cell_then c)
        ∙ elim (has_pages (cell_at sides.leaves c).parent) as
        (λ b. map (λ it. it.number) (cond b (with_fork n Eager Own (cell_at sides.leaves c)) (cell_at sides.leaves c)).kept ≡ cond b (n ∷ []) []) [
          | true ↦ ap (λ kept. map (λ it. it.number) (with_kept (record { number = n; mode = Eager; versions = (cell_at sides.leaves c).parent; leaf = Own }) kept)) (alone c)
          | false ↦ ap (map (λ it. it.number)) (alone c)
        ]
        ∙ ap (λ b. cond b (n ∷ []) []) (sym (st.parent c))

    live_then : (m : ℕ) → is_some (get (insert sides.snapshots n sides.pages) m) ≡ (n == m)
    live_then m = elim (cases_eq m n) [
      | inl same ↦ ap is_some (get_inserted_here sides.snapshots n sides.pages m same) ∙ sym (eq-eqb n m (sym same))
      | inr apart ↦ ap is_some (get_inserted_apart sides.snapshots n sides.pages m apart) ∙ st.snapshot_of.live m ∙ sym (ne_eqb n m (λ e. apart (sym e)))
    ]

    absent_then : (m c p : ℕ) → p < 512 → list_any (λ k. k == m) (cond (is_some (get directory c)) (n ∷ []) []) ≡ false → page_at c p (get (insert sides.snapshots n sides.pages) m) ≡ None
    absent_then m c p small lacks = elim (cases_eq m n) [
      | inl same ↦ ap (page_at c p) (get_inserted_here sides.snapshots n sides.pages m same)
          ∙ no-page directory None slots sides st c p (sym (st.parent c) ∙ by (is_some (get directory c)) refl same) small
      | inr apart ↦ ap (page_at c p) (get_inserted_apart sides.snapshots n sides.pages m apart ∙ none-lives m)
    ]
      where
        by : (b : Bool) → is_some (get directory c) ≡ b → m ≡ n → b ≡ false
        by false e same = refl
        by true e same = sym (eq-eqb n m (sym same)) ∙ sym (or-false (n == m)) ∙ sym (ap (λ b. list_any (λ k. k == m) (cond b (n ∷ []) [])) e) ∙ lacks
          where
            or-false : (a : Bool) → (a || false) ≡ a
            or-false true = refl
            or-false false = refl

    pub stands-forked : (later : ℕ) → sides.made ≤ later → StandFor directory tables_then new (sides_then later)
    stands-forked later more = record {
      cells = λ c. forked_state n (st.cells c);
      kept = kept_then;
      each = each_then later;
      slots_of = slots-become (forked_leaves n) (forked_state n) refl slots new become sides.leaves leaves_then st.cells sides.made later st.slots_of kept_then found_then more;
      blank = λ c none. ap (forked_state n) (st.blank c (sym (found_then c) ∙ none));
      few = subst (λ size. size ≤ 512) (sym become.size) st.few;
      parent = λ c. st.parent c ∙ ap has_pages (sym (parent_then c));
      named = λ c s e. owner_then s ∙ st.named c s e;
      snapshot_of = record {
        numbers = numbers_then;
        named = λ c s e. owner_then s ∙ st.named c s e;
        live = live_then;
        absent = absent_then;
      };
    }

  -- the cells are as they were
  pub stands-again : (new : List Slot) → AllBecome same_leaves same_state slots new → (later : ℕ) → sides.made ≤ later → StandFor directory None new (record sides { made = later })
  stands-again new become later more = record {
    cells = st.cells;
    kept = st.kept;
    each = record { leaves = st.each.leaves; pages = st.each.pages; snapshots = st.each.snapshots };
    slots_of = slots-become same_leaves same_state refl slots new become sides.leaves sides.leaves st.cells sides.made later st.slots_of st.kept (λ c. refl) more;
    blank = st.blank;
    few = subst (λ size. size ≤ 512) (sym become.size) st.few;
    parent = st.parent;
    named = λ c s e. same s ∙ st.named c s e;
    snapshot_of = record { numbers = st.snapshot_of.numbers; named = λ c s e. same s ∙ st.snapshot_of.named c s e; live = st.snapshot_of.live; absent = st.snapshot_of.absent };
  }
    where
      same : (t : ℕ) → owner_at new t ≡ owner_at slots t
      same = owners-same slots new become.size (λ s slot here. let it : (it : Slot) × ((slice_get new s ≡ Some it) × Becomes same_leaves same_state slot it) =
          become.each s slot here in (it.0, (it.1.0, it.1.1.owner)))

-- what the fork asked for
abbrev pub asked_wants : CellMap → List Slot → List Want
asked_wants directory slots = directory_wants (keys directory) ++ replicate (forked_count slots) want.Leaf

module _ (old : PageTables) (none : old.snapshot ≡ None) where
  stood : (sides : Sides) → TablesStandFor old sides → StandFor old.directory None old.slots.items sides
  stood sides st = subst (λ snapshot. StandFor old.directory snapshot old.slots.items sides) none st

  wanted : (sides : Sides) → TablesStandFor old sides → fork_wants Eager (parent_cells sides.leaves) ≡ asked_wants old.directory old.slots.items
  wanted sides st =
      let cells : keys old.directory ≡ parent_cells sides.leaves = directory-cells old.directory old.snapshot old.slots.items sides st in
      sym (ap (λ cells. directory_wants cells ++ replicate (forked_count old.slots.items) want.Leaf) cells
      ∙ same-fork (parent_cells sides.leaves) (forked_count old.slots.items) (forks-counted old.directory old.snapshot old.slots.items sides st))

  -- the snapshot is there
  pub fork-made : {State : Type 0} (goes : State → Deal → State → Type 0) (from to : State) (n : ℕ) (child : CellMap) (new : PageTables)
      → LeadsAlong goes from (granted (asked_wants old.directory old.slots.items)) to
      → AllBecome (forked_leaves n) (forked_state n) old.slots.items new.slots.items → child ≡ old.directory
      → new.directory ≡ old.directory → new.snapshot ≡ Some (record { number = n; directory = child })
      → MadeOfSnapshots goes from to (snapshot_forked n Eager) (snapshots_with n) old new None
  fork-made goes from to n child new led become copied same there = record {
    deals = granted (asked_wants old.directory old.slots.items);
    led = led;
    follows = λ sides st.
        let wants : List Want = asked_wants old.directory old.slots.items in
        let later : ℕ = sides.made + length wants in
        let then : Sides = record { leaves = with_fork_at (parent_cells sides.leaves) n Eager sides.leaves; pages = sides.pages; snapshots = insert sides.snapshots n sides.pages; made = later } in
        let whole : new.snapshot ≡ Some (record { number = n; directory = old.directory }) = there ∙ ap (λ d. Some (record { number = n; directory = d })) copied in
        let stands : StandFor old.directory (Some (record { number = n; directory = old.directory })) new.slots.items then =
        stands-forked old.directory old.slots.items sides (stood sides st) n new.slots.items become later (omega arith) in
        record {
          leaves = then.leaves;
          made = later;
          runs = fork-runs n sides.leaves sides.made wants (wanted sides st);
          stands = subst (λ d. StandFor d new.snapshot new.slots.items then) (sym same) (subst (λ snapshot. StandFor old.directory snapshot new.slots.items then) (sym whole) stands);
        };
  }

  -- or it was refused
  pub fork-refused : {State : Type 0} (goes : State → Deal → State → Type 0) (from to : State) (n : ℕ) (new : PageTables) (at : ℕ)
      → Asks {X = Unit {0}} goes from (asked_wants old.directory old.slots.items) (Err (record { at = at })) to
      → AllBecome same_leaves same_state old.slots.items new.slots.items → new.directory ≡ old.directory → new.snapshot ≡ None
      → MadeOfSnapshots goes from to (snapshot_forked n Eager) (snapshots_with n) old new (Some (record { at = at; page = None }))
  fork-refused goes from to n new at refuses become same gone = record {
    deals = deals_up_to refuses.front refuses.want at;
    led = refuses.deals;
    follows = λ sides st.
        let wants : List Want = asked_wants old.directory old.slots.items in
        let later : ℕ = sides.made + length refuses.front + 1 in
        let then : Sides = record sides { made = later } in
        let stands : StandFor old.directory None new.slots.items then = stands-again old.directory old.slots.items sides (stood sides st) new.slots.items become later (omega arith) in
        record {
          leaves = sides.leaves;
          made = later;
          runs = unforked-runs n sides.leaves sides.made wants (wanted sides st) refuses.front refuses.want refuses.rest refuses.order at;
          stands = subst (λ d. StandFor d new.snapshot new.slots.items then) (sym same) (subst (λ snapshot. StandFor old.directory snapshot new.slots.items then) (sym gone) stands);
        };
  }
