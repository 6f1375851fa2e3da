-- Tables of which one cell lets others of its pages be written to, and nothing else has changed.
use Rattle.std.proofs.Common.{◌≡◌, ◌≢◌, ℕ, ◌+◌, ◌-◌, ◌*◌, ◌/◌, ◌%◌, ◌<◌, ◌≤◌, List, length, Option, Some, None, cond, refl, sym, ◌∙◌, ap, subst, arith, inl, inr, ◌⊎◌}
use Rattle.std.specs.Prelude.{Bool, true, false, ◌&&◌, min, is_some, slice_set, slice_index_or, count_by, unwrap_or}
use Rattle.std.specs.Option.{option_map, option_and_then}
use Rattle.std.specs.List.{slice_get}
use Rattle.std.specs.FinMap.{get}
use Rattle.std.proofs.lemmas.Bool.{cases_eq, cases_lt}
use Rattle.std.proofs.lemmas.Option.{slice_get_within, get_or_from_slice_get}
use Rattle.std.proofs.lemmas.List.Sums.{sum_by-set}
use Rattle.vm_base.specs.declared.permission.Perm.{Perm}
use Rattle.vm_base.specs.Places.{cell_of}
use Rattle.vm_base.specs.FlatStep.{is_beyond, is_writable}
use Rattle.kernel_meaning.specs.Leaves.{share}
use Rattle.kernel_meaning.specs.FrameLaw.{Leaves}
use Rattle.kernel_meaning.specs.CellAccount.{CellState}
use Rattle.leaf_cell.specs.CellView.{CellView, held_of}
use Rattle.leaf_cell.specs.Standing.{StandsFor}
use Rattle.leaf_cell.specs.Writable.{writable_at}
use Rattle.leaf_cell.specs.Permissions.{is_unshared, allowed}
use Rattle.leaf_cell.proofs.WritablePages.{writable_at-with}
use Rattle.leaf_cell.proofs.WritableViews.{stands-writable}
use Rattle.table_levels.specs.Cells.{CellMap, tables_of}
use Rattle.page_tables.specs.declared.slot.Slot.{Slot}
use Rattle.page_tables.specs.declared.tables.SnapshotTables.{SnapshotTables}
use Rattle.page_tables.specs.declared.tables.PageTables.{PageTables}
use Rattle.page_tables.specs.Sides.{Sides}
use Rattle.page_tables.specs.Standing.{owner_at, state_in, AreSlotsOf, StandFor}
use Rattle.page_tables.specs.Held.{frames_in, shares_in, snapshot_frames}
use Rattle.page_tables.specs.Permissions.{parent_cell, may_write, may_write_after, is_alone, LeavesAllButPermissions}
use Rattle.page_tables.proofs.SlotLemmas.{slice_get-set-here, slice_get-set-apart, length-set}
use Rattle.page_tables.proofs.OwnedSlots.{frames-set, same_slot}
use Rattle.page_tables.proofs.FirstCell.{IsFirstFrom}
use Rattle.page_tables.proofs.ClearedCell.{beyond-within, beyond-outside}
use Rattle.page_tables.proofs.ClearedSlot.{shares-set}

-- the same slot, of whose cell these pages may be written to
abbrev pub slot_allowed : Slot → List Bool → Slot
slot_allowed slot writable = record { owner = slot.owner; cell = record slot.cell { writable = writable } }

module _ (slots : List Slot) (s : ℕ) (slot : Slot) (here : slice_get slots s ≡ Some slot) (writable : List Bool) where
  abbrev new_slot : Slot
  new_slot = slot_allowed slot writable

  abbrev pub slots_allowed : List Slot
  slots_allowed = slice_set slots s new_slot

  set_here : slice_get slots_allowed s ≡ Some new_slot
  set_here = slice_get-set-here slots s new_slot (slice_get_within slots s slot here)

  pub owners-allowed : (t : ℕ) → owner_at slots_allowed t ≡ owner_at slots t
  owners-allowed t = elim (cases_eq t s) [
    | inl same ↦ ap (owner_at slots_allowed) same ∙ ap (option_and_then (λ it. it.owner)) (set_here ∙ sym (ap (option_map (λ it. slot_allowed it writable)) here))
        ∙ back (slice_get slots s) ∙ ap (owner_at slots) (sym same)
    | inr apart ↦ ap (option_and_then (λ it. it.owner)) (slice_get-set-apart slots s t new_slot apart)
  ]
    where
      back : (o : Option Slot) → option_and_then (λ it. it.owner) (option_map (λ it. slot_allowed it writable) o) ≡ option_and_then (λ it. it.owner) o
      back None = refl
      back (Some it) = refl

  pub frames-allowed : frames_in slots_allowed ≡ frames_in slots
  frames-allowed =
      let sums : frames_in slots_allowed + held_of slot.cell ≡ frames_in slots + held_of slot.cell = frames-set slots s slot new_slot here in
      omega (arith, sums)

  pub shares-allowed : shares_in slots_allowed ≡ shares_in slots
  shares-allowed =
      let sums : shares_in slots_allowed + share slot.cell.leaves ≡ shares_in slots + share slot.cell.leaves = shares-set slots s slot new_slot here in
      omega (arith, sums)

  counted-allowed : count_by (λ it. is_some it.owner) slots_allowed ≡ count_by (λ it. is_some it.owner) slots
  counted-allowed =
      let one : Slot → ℕ = λ it. cond (is_some it.owner) 1 0 in
      let sums : count_by (λ it. is_some it.owner) slots_allowed + one (slice_index_or slots s slot) ≡ count_by (λ it. is_some it.owner) slots + one slot =
      sum_by-set one slots s new_slot slot (slice_get_within slots s slot here) in
      let was : one (slice_index_or slots s slot) ≡ one slot = ap one (get_or_from_slice_get slots s slot slot here) in
      omega (arith, sums, was)

  slots_of-allowed : (leaves : Leaves) (cells : ℕ → CellState) (made : ℕ) → AreSlotsOf leaves cells made slots → AreSlotsOf leaves cells made slots_allowed
  slots_of-allowed leaves cells made of = record {
    stands = λ t it there. elim (cases_eq t s) [
      | inl same ↦ subst (λ it. StandsFor it.cell (record { state = state_in cells it.owner; made = made }))
          (same_slot new_slot it (sym set_here ∙ ap (slice_get slots_allowed) (sym same) ∙ there))
          (stands-writable slot.cell writable (record { state = state_in cells slot.owner; made = made }) (of.stands s slot here))
      | inr apart ↦ of.stands t it (sym (slice_get-set-apart slots s t new_slot apart) ∙ there)
    ];
    once = λ t u c e f. of.once t u c (sym (owners-allowed t) ∙ e) (sym (owners-allowed u) ∙ f);
    used = λ t c e. of.used t c (sym (owners-allowed t) ∙ e);
    owned = λ c there. let old = of.owned c there in (old.0, owners-allowed old.0 ∙ old.1);
    counted = counted-allowed ∙ of.counted;
  }

  -- they stand for the same sides
  pub stand-allowed : (directory : CellMap) (snapshot : Option SnapshotTables) (sides : Sides) → StandFor directory snapshot slots sides → StandFor directory snapshot slots_allowed sides
  stand-allowed directory snapshot sides st = record {
    cells = st.cells;
    kept = st.kept;
    each = st.each;
    slots_of = slots_of-allowed sides.leaves st.cells sides.made st.slots_of;
    blank = st.blank;
    few = subst (λ n. n ≤ 512) (sym (length-set slots s new_slot)) st.few;
    parent = st.parent;
    named = λ c t e. owners-allowed t ∙ st.named c t e;
    snapshot_of = record {
      numbers = st.snapshot_of.numbers;
      named = λ c t e. owners-allowed t ∙ st.snapshot_of.named c t e;
      live = st.snapshot_of.live;
      absent = st.snapshot_of.absent;
    };
  }

-- a page lies in a range where its place in the cell lies in the part of the range there
pub same-range : (c page first end low high : ℕ) → cell_of page ≡ c → low ≡ first - c * 512 → high ≡ min (end - c * 512) 512 → is_beyond low (high - low) (page % 512) ≡ is_beyond first (end - first) page
same-range c page first end low high same low_is high_is = elim (cases_lt page first) [
  | inl before ↦ beyond-outside low (high - low) (page % 512) (inl (omega (arith, same, low_is, before))) ∙ sym (beyond-outside first (end - first) page (inl before))
  | inr reached ↦ elim (cases_lt page end) [
    | inl within ↦ beyond-within low (high - low) (page % 512) (omega (arith, same, low_is, reached)) (omega (arith, same, low_is, high_is, reached, within))
        ∙ sym (beyond-within first (end - first) page reached (omega (arith, reached, within)))
    | inr past ↦ beyond-outside low (high - low) (page % 512) (inr (omega (arith, same, low_is, high_is, reached, past))) ∙ sym (beyond-outside first (end - first) page (inr (omega (arith, reached, past))))
  ]
]

-- the bits of a page's cell, and whether the page is the parent's alone there
abbrev pub bit_in : Option CellView → ℕ → Bool
bit_in cell page = unwrap_or (option_map (λ cell. writable_at cell.writable page) cell) false

abbrev pub alone_in : Option CellView → ℕ → Bool
alone_in cell page = unwrap_or (option_map (λ cell. is_unshared cell.leaves page) cell) false

module _ (old : PageTables) (c s : ℕ) (slot : Slot) (known : get old.directory c ≡ Some s) (here : slice_get old.slots.items s ≡ Some slot)
    (named : (q t : ℕ) → get old.directory q ≡ Some t → owner_at old.slots.items t ≡ Some q) (writable : List Bool)
    (new : PageTables) (directory : new.directory ≡ old.directory) (snapshot : new.snapshot ≡ old.snapshot) (set : new.slots.items ≡ slice_set old.slots.items s (slot_allowed slot writable)) where
  parent-is : (q : ℕ) → parent_cell new q ≡ option_map (λ it. it.cell) (option_and_then (slice_get (slots_allowed old.slots.items s slot here writable)) (get old.directory q))
  parent-is q = λ i. option_map (λ it. it.cell) (option_and_then (slice_get (set i)) (get (directory i) q))

  pub cell-before : (q : ℕ) → q ≡ c → parent_cell old q ≡ Some slot.cell
  cell-before q same = ap (parent_cell old) same ∙ ap (λ o. option_map (λ it. it.cell) (option_and_then (slice_get old.slots.items) o)) known ∙ ap (option_map (λ it. it.cell)) here

  pub cell-after : (q : ℕ) → q ≡ c → parent_cell new q ≡ Some (record slot.cell { writable = writable })
  cell-after q same = parent-is q
      ∙ ap (λ o. option_map (λ it. it.cell) (option_and_then (slice_get (slots_allowed old.slots.items s slot here writable)) o)) (ap (get old.directory) same ∙ known)
      ∙ ap (option_map (λ it. it.cell)) (slice_get-set-here old.slots.items s (slot_allowed slot writable) (slice_get_within old.slots.items s slot here))

  pub cell-other : (q : ℕ) → q ≢ c → parent_cell new q ≡ parent_cell old q
  cell-other q apart = parent-is q ∙ by (get old.directory q) refl
    where
      by : (o : Option ℕ) → get old.directory q ≡ o
          → option_map (λ it. it.cell) (option_and_then (slice_get (slots_allowed old.slots.items s slot here writable)) o) ≡ option_map (λ it. it.cell) (option_and_then (slice_get old.slots.items) o)
      by None is = refl
      by (Some t) is = ap (option_map (λ it. it.cell)) (slice_get-set-apart old.slots.items s t (slot_allowed slot writable) (λ same.
          apart (ap (λ o. unwrap_or o q) (sym (named q t is) ∙ ap (owner_at old.slots.items) same ∙ named c s known))))

  alone-same : (page : ℕ) → is_alone new page ≡ is_alone old page
  alone-same page = elim (cases_eq (cell_of page) c) [
    | inl same ↦ ap (λ cell. alone_in cell (page % 512)) (cell-after (cell_of page) same) ∙ sym (ap (λ cell. alone_in cell (page % 512)) (cell-before (cell_of page) same))
    | inr apart ↦ ap (λ cell. alone_in cell (page % 512)) (cell-other (cell_of page) apart)
  ]

  -- nothing else has changed
  pub all-but-permissions : LeavesAllButPermissions old new
  all-but-permissions = record {
    stands = λ sides st. subst (λ it. StandFor it new.snapshot new.slots.items sides) (sym directory) (subst (λ it. StandFor old.directory it new.slots.items sides) (sym snapshot)
        (subst (λ items. StandFor old.directory old.snapshot items sides) (sym set) (stand-allowed old.slots.items s slot here writable old.directory old.snapshot sides st)));
    held = λ i. tables_of (directory i) + snapshot_frames (snapshot i) + frames_same i;
    frames = frames_same;
    shares = ap shares_in set ∙ shares-allowed old.slots.items s slot here writable;
    directory = directory;
    snapshot = snapshot;
    slots = ap length set ∙ length-set old.slots.items s (slot_allowed slot writable);
    alone = alone-same;
  }
    where
      frames_same : frames_in new.slots.items ≡ frames_in old.slots.items
      frames_same = ap frames_in set ∙ frames-allowed old.slots.items s slot here writable

  -- a page of another cell may be written to where it might
  pub others-still : (page : ℕ) → cell_of page ≢ c → may_write new page ≡ may_write old page
  others-still page apart = ap (λ cell. bit_in cell (page % 512)) (cell-other (cell_of page) apart)

  -- of the cell's pages those of a range have the permission
  pub pages-allowed : (perm : Perm) (first end low high : ℕ) → low ≡ first - c * 512 → high ≡ min (end - c * 512) 512 → writable ≡ allowed perm low (high - low) slot.cell
      → (page : ℕ) → cell_of page ≡ c → may_write new page ≡ may_write_after perm first (end - first) old page
  pages-allowed perm first end low high low_is high_is bits page same =
      let small : page % 512 < 512 = omega arith in
      ap (λ cell. bit_in cell (page % 512)) (cell-after (cell_of page) same) ∙ ap (λ bits. writable_at bits (page % 512)) bits
      ∙ writable_at-with (λ page. is_writable perm && is_unshared slot.cell.leaves page) low (high - low) slot.cell.writable (page % 512) small
      ∙ ap (λ b. cond b (writable_at slot.cell.writable (page % 512)) (is_writable perm && is_unshared slot.cell.leaves (page % 512))) (same-range c page first end low high same low_is high_is)
      ∙ ap (λ cell. cond (is_beyond first (end - first) page) (bit_in cell (page % 512)) (is_writable perm && alone_in cell (page % 512))) (sym (cell-before (cell_of page) same))

-- where nothing changes
pub all-but-permissions-same : (tables : PageTables) → LeavesAllButPermissions tables tables
all-but-permissions-same tables = record {
  stands = λ sides st. st;
  held = refl;
  frames = refl;
  shares = refl;
  directory = refl;
  snapshot = refl;
  slots = refl;
  alone = λ page. refl;
}

pub all-but-permissions-on : (old amid new : PageTables) → LeavesAllButPermissions old amid → LeavesAllButPermissions amid new → LeavesAllButPermissions old new
all-but-permissions-on old amid new one two = record {
  stands = λ sides st. two.stands sides (one.stands sides st);
  held = two.held ∙ one.held;
  frames = two.frames ∙ one.frames;
  shares = two.shares ∙ one.shares;
  directory = two.directory ∙ one.directory;
  snapshot = two.snapshot ∙ one.snapshot;
  slots = two.slots ∙ one.slots;
  alone = λ page. two.alone page ∙ one.alone page;
}

-- ---- one cell after another

-- a page of a cell that the directory lacks may not be written to
pub never-written : (tables : PageTables) (page : ℕ) → get tables.directory (cell_of page) ≡ None → may_write tables page ≡ false
never-written tables page absent = ap (λ o. bit_in (option_map (λ it. it.cell) (option_and_then (slice_get tables.slots.items) o)) (page % 512)) absent

pub never-alone : (tables : PageTables) (page : ℕ) → get tables.directory (cell_of page) ≡ None → is_alone tables page ≡ false
never-alone tables page absent = ap (λ o. alone_in (option_map (λ it. it.cell) (option_and_then (slice_get tables.slots.items) o)) (page % 512)) absent

-- with no permission
never-after : (perm : Perm) (first n : ℕ) (tables : PageTables) (page : ℕ) → get tables.directory (cell_of page) ≡ None → may_write_after perm first n tables page ≡ false
never-after perm first n tables page absent =
    ap (λ b. cond (is_beyond first n page) b (is_writable perm && is_alone tables page)) (never-written tables page absent)
    ∙ ap (λ b. cond (is_beyond first n page) false (is_writable perm && b)) (never-alone tables page absent)
    ∙ none (is_beyond first n page) (is_writable perm)
  where
    none : (b may : Bool) → cond b false (may && false) ≡ false
    none true may = refl
    none false true = refl
    none false false = refl

-- what lies beyond the range stays
beyond-after : (perm : Perm) (first n : ℕ) (tables : PageTables) (page : ℕ) → (page < first) ⊎ (first + n ≤ page) → may_write tables page ≡ may_write_after perm first n tables page
beyond-after perm first n tables page outside = sym (ap (λ b. cond b (may_write tables page) (is_writable perm && is_alone tables page)) (beyond-outside first n page outside))

-- the cells below a number have been passed: their pages of the range have the permission, and those of the other cells are as they were
pub record ArePassed (perm : Perm) (first n next : ℕ) (start now : PageTables) : Type 0 where
  pub tables : LeavesAllButPermissions start now
  pub passed : (page : ℕ) → cell_of page < next → may_write now page ≡ may_write_after perm first n start page
  pub ahead : (page : ℕ) → next ≤ cell_of page → may_write now page ≡ may_write start page

pub none-passed : (perm : Perm) (first n : ℕ) (start : PageTables) → ArePassed perm first n (first / 512) start start
none-passed perm first n start = record {
  tables = all-but-permissions-same start;
  passed = λ page below. beyond-after perm first n start page (inl (omega (arith, below)));
  ahead = λ page reached. refl;
}

module _ (perm : Perm) (first n next : ℕ) (start now : PageTables) (before : ArePassed perm first n next start now) where
  absent-at-start : (page : ℕ) → get now.directory (cell_of page) ≡ None → get start.directory (cell_of page) ≡ None
  absent-at-start page absent = ap (λ it. get it (cell_of page)) (sym before.tables.directory) ∙ absent

  -- a cell that the directory lacks has nothing to change
  absent-passed : (page : ℕ) → get now.directory (cell_of page) ≡ None → may_write now page ≡ may_write_after perm first n start page
  absent-passed page absent = never-written now page absent ∙ sym (never-after perm first n start page (absent-at-start page absent))

  module _ (c s : ℕ) (is_first : IsFirstFrom now.directory next c s) where
    -- the next one is passed
    pub one-passed : (new : PageTables) (end : ℕ) → end ≡ first + n → LeavesAllButPermissions now new
        → ((page : ℕ) → cell_of page ≡ c → may_write new page ≡ may_write_after perm first (end - first) now page)
        → ((page : ℕ) → cell_of page ≢ c → may_write new page ≡ may_write now page)
        → ArePassed perm first n (c + 1) start new
    one-passed new end ends tables within others = record {
      tables = all-but-permissions-on start now new before.tables tables;
      passed = λ page below. elim (cases_lt (cell_of page) next) [
        | inl old ↦ others page (λ same. omega (arith, same, old, is_first.reached)) ∙ before.passed page old
        | inr reached ↦ elim (cases_eq (cell_of page) c) [
          | inl same ↦
              let count : end - first ≡ n = omega (arith, ends) in
              within page same ∙ ap (λ n. may_write_after perm first n now page) count
              ∙ (λ i. cond (is_beyond first n page) (before.ahead page reached i) (is_writable perm && before.tables.alone page i))
          | inr apart ↦ others page apart ∙ absent-passed page (is_first.others (cell_of page) reached (omega (arith, apart, below)))
        ]
      ];
      ahead = λ page beyond. others page (λ same. omega (arith, same, beyond)) ∙ before.ahead page (omega (arith, beyond, is_first.reached));
    }

    -- and where it lies past the range all are
    pub passed-to-end : first + n ≤ c * 512 → (page : ℕ) → may_write now page ≡ may_write_after perm first n start page
    passed-to-end past page = elim (cases_lt (cell_of page) next) [
      | inl old ↦ before.passed page old
      | inr reached ↦ elim (cases_lt (cell_of page) c) [
        | inl between ↦ absent-passed page (is_first.others (cell_of page) reached between)
        | inr beyond ↦ before.ahead page reached ∙ beyond-after perm first n start page (inr (omega (arith, past, beyond)))
      ]
    ]

  -- so are they where no cell is left
  pub passed-all : ((q : ℕ) → next ≤ q → get now.directory q ≡ None) → (page : ℕ) → may_write now page ≡ may_write_after perm first n start page
  passed-all none page = elim (cases_lt (cell_of page) next) [
    | inl old ↦ before.passed page old
    | inr reached ↦ absent-passed page (none (cell_of page) reached)
  ]
