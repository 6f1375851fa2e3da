-- The tables behind a drop.
use Rattle.std.proofs.Common.{◌≡◌, ℕ, zero, suc, ◌+◌, ◌-◌, ◌*◌, ◌<◌, ◌≤◌, List, [], ◌∷◌, ◌++◌, length, map, replicate, Option, Some, None, cond, refl, sym, ◌∙◌, ap, subst, arith, inl, inr}
use Rattle.std.specs.Prelude.{Bool, true, false, not, ◌||◌, ◌==◌, is_some, IsSome, unwrap_or, sum_by}
use Rattle.std.specs.Ordering.{nat_cmp}
use Rattle.std.specs.Option.{option_and_then}
use Rattle.std.specs.List.{slice_get}
use Rattle.std.specs.FinMap.{get, find, remove, empty, get-empty, get-remove}
use Rattle.std.specs.Cmp.{nat_cmp_total}
use Rattle.std.proofs.lemmas.Bool.{cases_eq, eq-eqb, ne_eqb, false≢true}
use Rattle.std.proofs.lemmas.Option.{slice_get_within}
use Rattle.vm_base.specs.Deals.{Deal, Returned, LeadsAlong}
use Rattle.vm_base.specs.FlatMemory.{PageMap}
use Rattle.vm_base.proofs.DealLemmas.{LeadsAlong-append}
use Rattle.kernel_meaning.specs.Leaves.{Kept, unused_cell, has_pages, kept_by, without_kept, share}
use Rattle.kernel_meaning.specs.CellAccount.{CellState, CellAccount, empty_state}
use Rattle.kernel_meaning.specs.FrameLaw.{Leaves, cell_at, is_used, snapshot_cells, held_frames}
use Rattle.kernel_meaning.specs.EventRequests.{without_snapshot_at, snapshot_dropped}
use Rattle.leaf_cell.specs.CellView.{CellView, without_snapshot, bytes_in}
use Rattle.leaf_cell.specs.Standing.{StandsFor}
use Rattle.table_levels.specs.Cells.{CellMap, tables_of}
use Rattle.table_levels.specs.Requests.{returned}
use Rattle.table_levels.proofs.Asking.{returned-append}
use Rattle.page_tables.specs.declared.slot.Slot.{Slot}
use Rattle.page_tables.specs.declared.tables.SnapshotTables.{SnapshotTables}
use Rattle.page_tables.specs.declared.tables.PageTables.{PageTables}
use Rattle.page_tables.specs.Sides.{Sides}
use Rattle.page_tables.specs.Courses.{requests_between, Runs}
use Rattle.page_tables.specs.Held.{shares_in}
use Rattle.page_tables.specs.Standing.{owner_at, state_in, AreKept, AreCellsOf, AreSlotsOf, StandFor, living_number}
use Rattle.page_tables.specs.Forking.{AllBecome, Becomes, AreFreed, owner_if_used, dropped_state, snapshots_without, MadeOfSnapshots}
use Rattle.page_tables.specs.Returning.{Returning}
use Rattle.leaf_cell.proofs.TouchRuns.{answers-returned}
use Rattle.page_tables.proofs.LeafMap.{same_number}
use Rattle.page_tables.proofs.HeldFrames.{frames-law}
use Rattle.page_tables.proofs.ForkSlots.{stands-alone, alone-viewed, pages-alike}
use Rattle.page_tables.proofs.Changing.{sums-same, slice_get_there}
use Rattle.page_tables.proofs.StandingFacts.{found-is-used, none-at, no-page, counted-by}
use Rattle.page_tables.proofs.DroppedLeaves.{unused-pages, unused-is, kept-dropped, cell-dropped}

-- ---- a cell that nobody has any more

pub stands-empty : (view : CellView) (state : CellState) (made : ℕ) → StandsFor view (record { state = state; made = made })
    → state.leaves ≡ unused_cell → StandsFor view (record { state = empty_state; made = made })
stands-empty view state made stands none =
    let alone : view.leaves.kept ≡ [] = alone-viewed view (record { state = state; made = made }) stands (ap (λ cell. cell.kept) none) in
    let bare : has_pages view.leaves.parent ≡ false = pages-alike view (record { state = state; made = made }) stands ∙ ap (λ cell. has_pages cell.parent) none in
    let leaves : StandsFor view (record { state = record { leaves = unused_cell; pages = state.pages; snapshots = state.snapshots }; made = made }) =
    subst (λ cell. StandsFor view (record { state = record { leaves = cell; pages = state.pages; snapshots = state.snapshots }; made = made })) none stands in
    record {
      name = leaves.name;
      leaves = leaves.leaves;
      made = leaves.made;
      pages = λ page small. ap (bytes_in view.frames) (none-at view.leaves.parent page bare) ∙ sym (get-empty nat_cmp page);
      snapshots = λ n page kept found unlost small. absurd (false≢true (ap is_some (sym (ap (λ ks. kept_by ks n) alone) ∙ found)));
      whole = leaves.whole;
    }

-- without snapshots a cell is used on both sides or on none
pub used-viewed : (view : CellView) (account : CellAccount) → StandsFor view account → account.state.leaves.kept ≡ [] → is_used view.leaves ≡ is_used account.state.leaves
used-viewed view account stands alone =
    let bare : view.leaves.kept ≡ [] = alone-viewed view account stands alone in
    (λ i. pages-alike view account stands i || not (length (bare i) == 0)) ∙ ap (λ kept. has_pages account.state.leaves.parent || not (length kept == 0)) (sym alone)

-- the one snapshot of a cell goes
last-gone : (n : ℕ) (b : Bool) (kept : List Kept) → map (λ it. it.number) kept ≡ cond b (n ∷ []) [] → without_kept n kept ≡ []
last-gone n b [] e = refl
last-gone n false (it ∷ others) e = let l : length (map (λ (k : Kept). k.number) (it ∷ others)) ≡ 0 = ap length e in absurd (omega arith)
last-gone n true (it ∷ []) e =
    let same : it.number ≡ n = ap (λ xs. head_or xs n) e in
    ap (λ b. cond (not b) (it ∷ []) []) (eq-eqb it.number n same)
  where
    head_or : List ℕ → ℕ → ℕ
    head_or [] d = d
    head_or (x ∷ xs) d = x
last-gone n true (it ∷ other ∷ others) e = let l : length (map (λ (k : Kept). k.number) (it ∷ other ∷ others)) ≡ 1 = ap length e in absurd (omega arith)

-- owners that have all changed alike
owners-mapped : (f : Option ℕ → Option ℕ) → f None ≡ None → (old new : List Slot) → length new ≡ length old
    → ((s : ℕ) (slot : Slot) → slice_get old s ≡ Some slot → (it : Slot) × ((slice_get new s ≡ Some it) × (it.owner ≡ f slot.owner)))
    → (t : ℕ) → owner_at new t ≡ f (owner_at old t)
owners-mapped f none [] [] size each t = sym none
owners-mapped f none [] (it ∷ new) size each t = absurd (omega arith)
owners-mapped f none (slot ∷ old) [] size each t = absurd (omega arith)
owners-mapped f none (slot ∷ old) (it ∷ new) size each zero =
    let first : (to : Slot) × ((slice_get (it ∷ new) 0 ≡ Some to) × (to.owner ≡ f slot.owner)) = each 0 slot refl in
    ap (option_and_then (λ it. it.owner)) first.1.0 ∙ first.1.1
owners-mapped f none (slot ∷ old) (it ∷ new) size each (suc t) = owners-mapped f none old new (omega arith) (λ s. each (suc s)) t

-- slots with the same cells
pub freed-sum : (f : Slot → ℕ) → ((slot it : Slot) → it.cell ≡ slot.cell → f it ≡ f slot) → (old new : List Slot) → AreFreed old new → sum_by f new ≡ sum_by f old
freed-sum f same old new freed = sums-same f old new freed.size (λ s slot here. let it : (it : Slot) × ((slice_get new s ≡ Some it) × ((it.cell ≡ slot.cell) × (it.owner ≡ owner_if_used slot))) =
    freed.each s slot here in (it.0, (it.1.0, same slot it.0 it.1.1.0)))

-- a slot behind the drop, with the owner that is left
record IsLeft (n : ℕ) (slot : Slot) (new : List Slot) (s : ℕ) (owner : Option ℕ) : Type 0 where
  to : Slot
  it : Slot
  become : Becomes (without_snapshot n) (dropped_state n) slot to
  there : slice_get new s ≡ Some it
  cell : it.cell ≡ to.cell
  owned : it.owner ≡ owner

module _ (directory : CellMap) (tables : SnapshotTables) (slots : List Slot) (sides : Sides) (st : StandFor directory (Some tables) slots sides)
    (mid new : List Slot) (dropped : AllBecome (without_snapshot tables.number) (dropped_state tables.number) slots mid) (freed : AreFreed mid new) where
  abbrev n : ℕ
  n = tables.number

  abbrev pub leaves_left : Leaves
  leaves_left = without_snapshot_at (snapshot_cells sides.leaves tables.number) tables.number sides.leaves

  cell_left : (c : ℕ) → cell_at leaves_left c ≡ without_snapshot n (cell_at sides.leaves c)
  cell_left c = cell-dropped n sides.leaves st.kept c

  kept_left : AreKept leaves_left
  kept_left = kept-dropped n (snapshot_cells sides.leaves n) sides.leaves st.kept

  alone : (c : ℕ) → (cell_at leaves_left c).kept ≡ []
  alone c = ap (λ cell. cell.kept) (cell_left c) ∙ last-gone n (is_some (get tables.directory c)) (cell_at sides.leaves c).kept (st.snapshot_of.numbers c)

  abbrev used_left : ℕ → Bool
  used_left c = is_used (cell_at leaves_left c)

  used-pages : (c : ℕ) → has_pages (cell_at leaves_left c).parent ≡ true → used_left c ≡ true
  used-pages c there = ap (λ b. b || not (length (cell_at leaves_left c).kept == 0)) there

  -- who has a cell with no snapshot has a page there, and had it before
  used-before : (c : ℕ) → used_left c ≡ true → is_used (cell_at sides.leaves c) ≡ true
  used-before c used = ap (λ b. b || not (length (cell_at sides.leaves c).kept == 0)) (pages (has_pages (cell_at leaves_left c).parent) refl)
    where
      pages : (b : Bool) → has_pages (cell_at leaves_left c).parent ≡ b → has_pages (cell_at sides.leaves c).parent ≡ true
      pages true there = ap (λ cell. has_pages cell.parent) (sym (cell_left c)) ∙ there
      pages false none = absurd (false≢true (sym (λ i. none i || not (length (alone c i) == 0)) ∙ used))

  -- the owner that is left
  abbrev still : Option ℕ → Option ℕ
  still owner = option_and_then (λ c. cond (used_left c) (Some c) None) owner

  still-some : (owner : Option ℕ) (c : ℕ) → still owner ≡ Some c → (owner ≡ Some c) × (used_left c ≡ true)
  still-some None c e = absurd (false≢true (ap is_some e))
  still-some (Some d) c e = by (used_left d) refl e
    where
      by : (b : Bool) → used_left d ≡ b → cond b (Some d) None ≡ Some c → (Some d ≡ Some c) × (used_left c ≡ true)
      by true used e = (e, ap (λ o. used_left (unwrap_or o d)) (sym e) ∙ used)
      by false unused e = absurd (false≢true (ap is_some e))

  -- what a cell stands for behind the drop
  stood : (slot to : Slot) (s : ℕ) → slice_get slots s ≡ Some slot → Becomes (without_snapshot n) (dropped_state n) slot to
      → StandsFor to.cell (record { state = dropped_state n (state_in st.cells slot.owner); made = sides.made })
  stood slot to s here become = become.stands (state_in st.cells slot.owner) sides.made (st.slots_of.stands s slot here)

  leaves-dropped : (c : ℕ) → (dropped_state n (st.cells c)).leaves ≡ cell_at leaves_left c
  leaves-dropped c = ap (without_snapshot n) (st.each.leaves c) ∙ sym (cell_left c)

  kept-gone : (c : ℕ) → (dropped_state n (st.cells c)).leaves.kept ≡ []
  kept-gone c = ap (λ cell. cell.kept) (leaves-dropped c) ∙ alone c

  -- the owner of a slot then
  owner-then : (slot to it : Slot) (s : ℕ) → slice_get slots s ≡ Some slot → Becomes (without_snapshot n) (dropped_state n) slot to → it.owner ≡ owner_if_used to → it.owner ≡ still slot.owner
  owner-then slot to it s here become left = left ∙ ap (λ o. cond (is_used to.cell.leaves) o None) become.owner ∙ by slot.owner (stood slot to s here become)
    where
      by : (owner : Option ℕ) → StandsFor to.cell (record { state = dropped_state n (state_in st.cells owner); made = sides.made }) → cond (is_used to.cell.leaves) owner None ≡ still owner
      by None stands = elim (is_used to.cell.leaves) as (λ b. cond {A = Option ℕ} b None None ≡ None) [ true ↦ refl | false ↦ refl ]
      by (Some c) stands = ap (λ b. cond b (Some c) None)
          (used-viewed to.cell (record { state = dropped_state n (st.cells c); made = sides.made }) stands (kept-gone c) ∙ ap is_used (leaves-dropped c))

  -- the changed slots, and those with their owners taken
  both : (s : ℕ) (slot : Slot) → slice_get slots s ≡ Some slot → IsLeft n slot new s (still slot.owner)
  both s slot here =
      let first : (to : Slot) × ((slice_get mid s ≡ Some to) × Becomes (without_snapshot n) (dropped_state n) slot to) = dropped.each s slot here in
      let second : (it : Slot) × ((slice_get new s ≡ Some it) × ((it.cell ≡ first.0.cell) × (it.owner ≡ owner_if_used first.0))) = freed.each s first.0 first.1.0 in
      record { to = first.0; it = second.0; become = first.1.1; there = second.1.0; cell = second.1.1.0; owned = owner-then slot first.0 second.0 s here first.1.1 second.1.1.1 }

  size_then : length new ≡ length slots
  size_then = freed.size ∙ dropped.size

  owner-still : (t : ℕ) → owner_at new t ≡ still (owner_at slots t)
  owner-still = owners-mapped still refl slots new size_then (λ s slot here. let all : IsLeft n slot new s (still slot.owner) = both s slot here in (all.it, (all.there, all.owned)))

  abbrev here_left : ℕ → CellState
  here_left c = record { leaves = cell_at leaves_left c; pages = (st.cells c).pages; snapshots = empty }

  abbrev cells_left : ℕ → CellState
  cells_left c = cond (used_left c) (here_left c) empty_state

  -- a cell stands for what is left
  as-left : (to : CellView) (owner : Option ℕ) → StandsFor to (record { state = dropped_state n (state_in st.cells owner); made = sides.made })
      → StandsFor to (record { state = state_in cells_left (still owner); made = sides.made })
  as-left to None stands = stands-alone to (dropped_state n empty_state) empty_state sides.made stands refl refl refl
  as-left to (Some c) stands = by (used_left c) refl
    where
      by : (b : Bool) → used_left c ≡ b → StandsFor to (record { state = state_in cells_left (cond b (Some c) None); made = sides.made })
      by true used = subst (λ b. StandsFor to (record { state = cond b (here_left c) empty_state; made = sides.made })) (sym used)
          (stands-alone to (dropped_state n (st.cells c)) (here_left c) sides.made stands (sym (leaves-dropped c)) refl (kept-gone c))
      by false unused = stands-empty to (dropped_state n (st.cells c)) sides.made stands (leaves-dropped c ∙ unused-is (cell_at leaves_left c) unused (kept_left.sizes c))

  stands-left : (t : ℕ) (it : Slot) → slice_get new t ≡ Some it → StandsFor it.cell (record { state = state_in cells_left it.owner; made = sides.made })
  stands-left t it here =
      let within : t < length new = slice_get_within new t it here in
      let size : length new ≡ length slots = size_then in
      let was : (slot : Slot) × (slice_get slots t ≡ Some slot) = slice_get_there slots t (omega arith) in
      let all : IsLeft n was.0 new t (still was.0.owner) = both t was.0 was.1 in
      let is : all.it ≡ it = ap (λ o. unwrap_or o it) (sym all.there ∙ here) in
      let stands : StandsFor all.to.cell (record { state = state_in cells_left (still was.0.owner); made = sides.made }) = as-left all.to.cell was.0.owner (stood was.0 all.to t was.1 all.become) in
      subst (λ slot. StandsFor slot.cell (record { state = state_in cells_left slot.owner; made = sides.made })) is
      (subst (λ owner. StandsFor all.it.cell (record { state = state_in cells_left owner; made = sides.made })) (sym all.owned)
      (subst (λ cell. StandsFor cell (record { state = state_in cells_left (still was.0.owner); made = sides.made })) (sym all.cell) stands))

  once-left : (s t c : ℕ) → owner_at new s ≡ Some c → owner_at new t ≡ Some c → s ≡ t
  once-left s t c e f = st.slots_of.once s t c (still-some (owner_at slots s) c (sym (owner-still s) ∙ e)).0 (still-some (owner_at slots t) c (sym (owner-still t) ∙ f)).0

  found-left : (s c : ℕ) → owner_at new s ≡ Some c → IsSome (find nat_cmp c leaves_left)
  found-left s c e = found-is-used leaves_left kept_left c ∙ (still-some (owner_at slots s) c (sym (owner-still s) ∙ e)).1

  still-owned : (s c : ℕ) → owner_at slots s ≡ Some c → used_left c ≡ true → owner_at new s ≡ Some c
  still-owned s c e used = owner-still s ∙ ap still e ∙ ap (λ b. cond b (Some c) None) used

  owned-left : (c : ℕ) → IsSome (find nat_cmp c leaves_left) → (s : ℕ) × (owner_at new s ≡ Some c)
  owned-left c there =
      let used : used_left c ≡ true = sym (found-is-used leaves_left kept_left c) ∙ there in
      let was : (s : ℕ) × (owner_at slots s ≡ Some c) = st.slots_of.owned c (found-is-used sides.leaves st.kept c ∙ used-before c used) in
      (was.0, still-owned was.0 c was.1 used)

  slots-left : AreSlotsOf leaves_left cells_left sides.made new
  slots-left = record {
    stands = stands-left;
    once = once-left;
    used = found-left;
    owned = owned-left;
    counted = counted-by leaves_left kept_left.sorted new once-left found-left owned-left;
  }

  -- no snapshot lives
  none-left : (m : ℕ) → get (remove sides.snapshots n) m ≡ None
  none-left m = get-remove nat_cmp_total sides.snapshots n m ∙ elim (cases_eq m n) [
    | inl same ↦ ap (λ b. cond b None (get sides.snapshots m)) (same_number m n ∙ eq-eqb m n same)
    | inr apart ↦ ap (λ b. cond b None (get sides.snapshots m)) (same_number m n ∙ ne_eqb m n apart) ∙ by (get sides.snapshots m) (st.snapshot_of.live m ∙ ne_eqb n m (λ e. apart (sym e)))
  ]
    where
      by : (o : Option PageMap) → is_some o ≡ false → o ≡ None
      by None e = refl
      by (Some pages) e = absurd (false≢true (sym e))

  abbrev pub sides_left : Sides
  sides_left = record { leaves = leaves_left; pages = sides.pages; snapshots = remove sides.snapshots tables.number; made = sides.made }

  each-left : AreCellsOf sides_left cells_left
  each-left = record {
    leaves = λ c. by_leaves c (used_left c) refl;
    pages = λ c p small. by_pages c p small (used_left c) refl;
    snapshots = λ m c p small. ap (option_and_then (λ it. get it p)) (by_snapshots m (used_left c) c) ∙ sym (ap (option_and_then (λ it. get it (c * 512 + p))) (none-left m));
  }
    where
      by_leaves : (c : ℕ) (b : Bool) → used_left c ≡ b → (cond b (here_left c) empty_state).leaves ≡ cell_at leaves_left c
      by_leaves c true used = refl
      by_leaves c false unused = sym (unused-is (cell_at leaves_left c) unused (kept_left.sizes c))

      by_pages : (c p : ℕ) → p < 512 → (b : Bool) → used_left c ≡ b → get (cond b (here_left c) empty_state).pages p ≡ get sides.pages (c * 512 + p)
      by_pages c p small true used = st.each.pages c p small
      by_pages c p small false unused =
          get-empty nat_cmp p ∙ sym (no-page directory (Some tables) slots sides st c p (ap (λ cell. has_pages cell.parent) (sym (cell_left c)) ∙ unused-pages (cell_at leaves_left c) unused) small)

      by_snapshots : (m : ℕ) (b : Bool) (c : ℕ) → get (cond b (here_left c) empty_state).snapshots m ≡ None
      by_snapshots m true c = get-empty nat_cmp m
      by_snapshots m false c = get-empty nat_cmp m

  parent-left : (c : ℕ) → is_some (get directory c) ≡ has_pages (cell_at leaves_left c).parent
  parent-left c = st.parent c ∙ ap (λ cell. has_pages cell.parent) (sym (cell_left c))

  pub stands-dropped : StandFor directory None new sides_left
  stands-dropped = record {
    cells = cells_left;
    kept = kept_left;
    each = each-left;
    slots_of = slots-left;
    blank = λ c none. ap (λ b. cond b (here_left c) empty_state) (sym (found-is-used leaves_left kept_left c) ∙ none);
    few = subst (λ size. size ≤ 512) (sym size_then) st.few;
    parent = parent-left;
    named = λ c s e. still-owned s c (st.named c s e) (used-pages c (sym (parent-left c) ∙ ap is_some e));
    snapshot_of = record {
      numbers = λ c. ap (map (λ it. it.number)) (alone c);
      named = λ c s e. absurd (false≢true (ap is_some e));
      live = λ m. ap is_some (none-left m);
      absent = λ m c p small lacks. ap (option_and_then (λ it. get it (c * 512 + p))) (none-left m);
    };
  }

  -- as many frames went back as the law lets go
  pub frames-left : (count : ℕ) → count + shares_in mid ≡ shares_in slots → held_frames sides.leaves - held_frames leaves_left ≡ count + tables_of tables.directory
  frames-left count shrunk =
      let before : held_frames sides.leaves ≡ tables_of directory + tables_of tables.directory + shares_in slots = frames-law directory (Some tables) slots sides st in
      let after : held_frames leaves_left ≡ tables_of directory + 0 + shares_in new = frames-law directory None new sides_left stands-dropped in
      let same : shares_in new ≡ shares_in mid = freed-sum (λ slot. share slot.cell.leaves) (λ slot it e. ap (λ cell. share cell.leaves) e) mid new freed in
      omega (arith, before, after, same, shrunk)

-- ---- the event

pub drop-runs : (n : ℕ) (leaves : Leaves) (made total : ℕ) → held_frames leaves - held_frames (without_snapshot_at (snapshot_cells leaves n) n leaves) ≡ total
    → Runs (snapshot_dropped n) leaves made (returned total) (without_snapshot_at (snapshot_cells leaves n) n leaves) made None
drop-runs n leaves made total falls = record {
  runs = λ before rest. λ i. record {
    leaves = without_snapshot_at (snapshot_cells leaves n) n leaves;
    requests = requests_between made (answers-returned total i ++ rest) (before ++ replicate (falls i) Returned);
    refused = None;
  };
}

pub drop-made : (old : PageTables) (tables : SnapshotTables) → old.snapshot ≡ Some tables
    → {State : Type 0} (goes : State → Deal → State → Type 0) (from between to : State) (new : PageTables) (mid : List Slot)
    → AllBecome (without_snapshot tables.number) (dropped_state tables.number) old.slots.items mid → AreFreed mid new.slots.items
    → Returning goes from between old.slots.items mid → LeadsAlong goes between (returned (tables_of tables.directory)) to
    → new.directory ≡ old.directory → new.snapshot ≡ None → (number : ℕ) → living_number old.snapshot ≡ Some number
    → MadeOfSnapshots goes from to (snapshot_dropped number) (snapshots_without number) old new None
drop-made old tables lives goes from between to new mid dropped freed back tables_back same gone number is =
    let total : ℕ = back.count + tables_of tables.directory in
    let named : tables.number ≡ number = ap (λ o. unwrap_or o number) (sym (ap living_number lives) ∙ is) in
    subst (λ n. MadeOfSnapshots goes from to (snapshot_dropped n) (snapshots_without n) old new None) named (record {
      deals = returned total;
      led = subst (λ ds. LeadsAlong goes from ds to) (returned-append back.count (tables_of tables.directory))
          (LeadsAlong-append goes (returned back.count) (returned (tables_of tables.directory)) from between to back.led tables_back);
      follows = λ sides st.
          let stood : StandFor old.directory (Some tables) old.slots.items sides = subst (λ snapshot. StandFor old.directory snapshot old.slots.items sides) lives st in
          let then : Sides = sides_left old.directory tables old.slots.items sides stood mid new.slots.items dropped freed in
          record {
            leaves = then.leaves;
            made = sides.made;
            runs = drop-runs tables.number sides.leaves sides.made total (frames-left old.directory tables old.slots.items sides stood mid new.slots.items dropped freed back.count back.shrunk);
            stands = subst (λ d. StandFor d new.snapshot new.slots.items then) (sym same)
                (subst (λ snapshot. StandFor old.directory snapshot new.slots.items then) (sym gone)
                (stands-dropped old.directory tables old.slots.items sides stood mid new.slots.items dropped freed));
          };
    })
