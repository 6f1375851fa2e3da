-- The slot whose cell loses pages of the parent, seen from its view: what the tables stand for then, and what they give back.
use Rattle.std.proofs.Common.{◌≡◌, ℕ, ◌+◌, ◌-◌, ◌≤◌, List, [], ◌∷◌, length, Some, None, refl, sym, ◌∙◌, ap, subst, arith}
use Rattle.std.specs.Prelude.{true, false, slice_set, slice_index_or, ◌||◌, ◌==◌, not}
use Rattle.std.specs.List.{slice_get}
use Rattle.std.specs.FinMap.{get, remove, retain_keys}
use Rattle.std.proofs.lemmas.Bool.{ne_eqb}
use Rattle.std.proofs.lemmas.List.Sums.{sum_by-set}
use Rattle.std.proofs.lemmas.Option.{slice_get_within, get_or_from_slice_get}
use Rattle.leaf_cell.proofs.HeldShare.{share-stands}
use Rattle.vm_base.specs.Deals.{Deal}
use Rattle.vm_base.specs.FlatStep.{is_beyond}
use Rattle.vm_base.specs.Places.{directory_frames}
use Rattle.kernel_meaning.specs.Requests.{answers_of, opening_requests}
use Rattle.kernel_meaning.specs.Leaves.{Kept, CellLeaves, has_present, has_pages, share}
use Rattle.kernel_meaning.specs.FrameLaw.{cell_at}
use Rattle.kernel_meaning.specs.CellAccount.{CellAccount, Clear}
use Rattle.leaf_cell.specs.CellView.{CellView, AreUnjoined, held_of}
use Rattle.leaf_cell.specs.Renaming.{AreKeptAlike}
use Rattle.leaf_cell.specs.States.{nth_number}
use Rattle.leaf_cell.specs.Standing.{StandsFor, TakesAccount}
use Rattle.leaf_cell.proofs.SameReads.{present-stands}
use Rattle.leaf_cell.proofs.TouchActs.{meant-pages}
use Rattle.table_levels.specs.Cells.{CellMap, tables_of}
use Rattle.table_levels.specs.Requests.{returned}
use Rattle.page_tables.specs.declared.slot.Slot.{Slot}
use Rattle.page_tables.specs.declared.tables.PageTables.{PageTables}
use Rattle.page_tables.specs.Sides.{Sides}
use Rattle.page_tables.specs.Courses.{Runs}
use Rattle.page_tables.specs.Clearing.{cell_without, sides_without, cell_unmapped, owner_left}
use Rattle.page_tables.specs.Standing.{StandFor, TablesStandFor}
use Rattle.page_tables.specs.Held.{frames_in, shares_in, snapshot_frames}
use Rattle.page_tables.proofs.LessShare.{less-share}
use Rattle.page_tables.proofs.OwnedSlots.{frames-set}
use Rattle.page_tables.proofs.Room.{directory-cells}
use Rattle.page_tables.proofs.ClearedCell.{share_freed, cleared-is}
use Rattle.page_tables.proofs.ClearedTables.{account, stood, mine, had, stands_then, kept-stands, left-stands, gone-stands, event-runs}

-- the frames that go where a cell holds fewer and the directory too
pub freed-numbers : (d e s f g h k : ℕ) → g + h ≡ f + k → k ≤ h → e ≤ d → (d + s + f) - (e + s + g) ≡ (h - k) + (d - e)
freed-numbers d e s f g h k sums less fewer = omega arith

-- a cell that stands for an account holds its share
abbrev pub HoldsShare : CellView → Type 0
HoldsShare view = (account : CellAccount) → StandsFor view account → held_of view ≡ share account.state.leaves

-- one slot gets another cell, with its share
pub shares-set : (slots : List Slot) (s : ℕ) (slot new : Slot) → slice_get slots s ≡ Some slot → shares_in (slice_set slots s new) + share slot.cell.leaves ≡ shares_in slots + share new.cell.leaves
shares-set slots s slot new here =
    let sums : shares_in (slice_set slots s new) + share (slice_index_or slots s slot).cell.leaves ≡ shares_in slots + share new.cell.leaves = sum_by-set (λ it. share it.cell.leaves) slots s new slot (slice_get_within slots s slot here) in
    let was : share (slice_index_or slots s slot).cell.leaves ≡ share slot.cell.leaves = ap (λ it. share it.cell.leaves) (get_or_from_slice_get slots s slot slot here) in
    omega (arith, sums, was)

-- what the cells hold and their shares change by the same, where one slot's cell holds its share before and after
pub even-slots : (slots : List Slot) (s : ℕ) (slot new : Slot) → slice_get slots s ≡ Some slot → held_of slot.cell ≡ share slot.cell.leaves → held_of new.cell ≡ share new.cell.leaves
    → frames_in slots + shares_in (slice_set slots s new) ≡ shares_in slots + frames_in (slice_set slots s new)
even-slots slots s slot new here before after =
    let held : frames_in (slice_set slots s new) + held_of slot.cell ≡ frames_in slots + held_of new.cell = frames-set slots s slot new here in
    let shares : shares_in (slice_set slots s new) + share slot.cell.leaves ≡ shares_in slots + share new.cell.leaves = shares-set slots s slot new here in
    omega (arith, held, shares, before, after)

-- and where they were as many as their shares, they still are
pub still-even : (frames shares frames_then shares_then : ℕ) → frames + shares_then ≡ shares + frames_then → frames ≡ shares
    → frames_then ≡ shares_then
still-even frames shares frames_then shares_then moved even = omega (arith, moved, even)

-- a cell that stands for some account holds the share of its own leaves
pub holds-own : (view : CellView) (account : CellAccount) → StandsFor view account → HoldsShare view → held_of view ≡ share view.leaves
holds-own view account stands holds = holds account stands ∙ sym (share-stands view account stands)

module _ (old : PageTables) (c s first n : ℕ) (slot : Slot) (known : get old.directory c ≡ Some s) (here : slice_get old.slots.items s ≡ Some slot) (fits : first + n ≤ 512) where
  -- the pages are present in the slot where they are on the parent's side
  pub present-here : (sides : Sides) (st : TablesStandFor old sides) → has_present slot.cell.leaves.parent first n ≡ has_present (cell_at sides.leaves c).parent first n
  present-here sides st =
      present-stands slot.cell (account old.directory old.snapshot old.slots.items sides st c s slot known here) (stood old.directory old.snapshot old.slots.items sides st c s slot known here) first n
      ∙ ap (λ cell. has_present cell.parent first n) (st.each.leaves c)

  module _ (view : CellView) (deals : List Deal) (follows : (account : CellAccount) → StandsFor slot.cell account → TakesAccount (Clear first n) slot.cell view deals None account)
      (shares_before : HoldsShare slot.cell) (shares_after : HoldsShare view) (sides : Sides) (st : TablesStandFor old sides) (present : has_present (cell_at sides.leaves c).parent first n ≡ true) where
    abbrev meant : CellAccount
    meant = account old.directory old.snapshot old.slots.items sides st c s slot known here

    stood_here : StandsFor slot.cell meant
    stood_here = stood old.directory old.snapshot old.slots.items sides st c s slot known here

    takes : TakesAccount (Clear first n) slot.cell view deals None meant
    takes = follows meant stood_here

    abbrev cell : CellLeaves
    cell = cell_at sides.leaves c

    abbrev left : CellLeaves
    left = cell_without first n (cell_at sides.leaves c)

    abbrev then : Sides
    then = sides_without c first n sides

    held_before : held_of slot.cell ≡ share cell
    held_before = shares_before meant stood_here ∙ ap share (st.each.leaves c)

    abbrev then_account : CellAccount
    then_account = record { state = record { leaves = left; pages = retain_keys (st.cells c).pages (is_beyond first n); snapshots = (st.cells c).snapshots }; made = sides.made }

    after_account : StandsFor view then_account
    after_account = stands_then old.directory old.snapshot old.slots.items sides st c s slot known here first n present fits view deals takes

    pub even-here : (new : Slot) → new.cell ≡ view → frames_in old.slots.items + shares_in (slice_set old.slots.items s new) ≡ shares_in old.slots.items + frames_in (slice_set old.slots.items s new)
    even-here new same = even-slots old.slots.items s slot new here (holds-own slot.cell meant stood_here shares_before)
        (subst (λ it. held_of it ≡ share it.leaves) (sym same) (holds-own view then_account after_account shares_after))

    held_after : held_of view ≡ share left
    held_after = shares_after then_account after_account

    pages_left : has_pages left.parent ≡ has_pages view.leaves.parent
    pages_left = meant-pages view then_account after_account

    pub less-held : held_of view ≤ held_of slot.cell
    less-held =
        let less : share left ≤ share cell =
        less-share cell first n (subst (λ m. first + n ≤ m) (sym (st.kept.sizes c)) fits) (had old.directory old.snapshot old.slots.items sides st c s slot known here) in
        subst (λ m. m ≤ held_of slot.cell) (sym held_after) (subst (λ m. share left ≤ m) (sym held_before) less)

    -- the deals of the clear
    pub deals-are : deals ≡ returned (held_of slot.cell - held_of view)
    deals-are =
        sym takes.asked
        ∙ ap (λ course. course.requests.deals) (cleared-is first n (st.cells c).leaves (opening_requests sides.made (answers_of deals))
        (ap (λ it. has_present it.parent first n) (st.each.leaves c) ∙ present) (subst (λ it. AreUnjoined it.kept) (sym (st.each.leaves c)) (st.kept.unjoined c)))
        ∙ ap (λ it. returned (share_freed first n it)) (st.each.leaves c)
        ∙ (λ i. returned (sym held_before i - sym held_after i))

    abbrev frames_before : ℕ
    frames_before = tables_of old.directory + snapshot_frames old.snapshot + frames_in old.slots.items

    abbrev frames_then : CellMap → Slot → ℕ
    frames_then directory new = tables_of directory + snapshot_frames old.snapshot + frames_in (slice_set old.slots.items s new)

    -- the frames that the tables give back
    pub freed-are : (directory : CellMap) (new : Slot) → new.cell ≡ view → tables_of directory ≤ tables_of old.directory
        → frames_before - frames_then directory new ≡ (held_of slot.cell - held_of view) + (tables_of old.directory - tables_of directory)
    freed-are directory new same fewer =
        freed-numbers (tables_of old.directory) (tables_of directory) (snapshot_frames old.snapshot) (frames_in old.slots.items) (frames_in (slice_set old.slots.items s new)) (held_of slot.cell) (held_of view)
        (frames-set old.slots.items s slot new here ∙ ap (λ it. frames_in old.slots.items + held_of it) same) less-held fewer

    -- the unmap's deals, where the tables stand for what is left
    pub event-made : (directory : CellMap) (new : Slot) → new.cell ≡ view → tables_of directory ≤ tables_of old.directory → StandFor directory old.snapshot (slice_set old.slots.items s new) then
        → Runs (cell_unmapped c first n) sides.leaves sides.made (returned (frames_before - frames_then directory new)) then.leaves sides.made None
    event-made directory new same fewer now =
        event-runs old.directory old.snapshot old.slots.items sides st c s slot known here first n present fits (frames_before - frames_then directory new)
        (held_of slot.cell - held_of view) (tables_of old.directory - tables_of directory) (freed-are directory new same fewer) (λ i. held_before i - held_after i)
        (λ i. directory_frames (directory-cells old.directory old.snapshot old.slots.items sides st i) - directory_frames (directory-cells directory old.snapshot (slice_set old.slots.items s new) then now i))

    -- the parent has a page left in the cell
    pub stays : has_pages view.leaves.parent ≡ true → StandFor old.directory old.snapshot (slice_set old.slots.items s (record { owner = slot.owner; cell = view })) then
    stays has =
        let has_too : has_pages left.parent ≡ true = pages_left ∙ has in
        subst (λ owner. StandFor old.directory old.snapshot (slice_set old.slots.items s (record { owner = owner; cell = view })) then) (sym (mine old.directory old.snapshot old.slots.items sides st c s slot known here))
        (kept-stands old.directory old.snapshot old.slots.items sides st c s slot known here first n present fits view deals takes (ap (λ b. b || not (length left.kept == 0)) has_too) has_too)

    -- the parent has none left
    pub leaves-cell : has_pages view.leaves.parent ≡ false
        → StandFor (remove old.directory c) old.snapshot (slice_set old.slots.items s (record { owner = owner_left slot.owner (nth_number view.leaves.kept 0); cell = view })) then
    leaves-cell none = by view.leaves.kept left.kept refl after_account.leaves.kept
      where
        none_too : has_pages left.parent ≡ false
        none_too = pages_left ∙ none

        by : (seen kept : List Kept) → left.kept ≡ kept → AreKeptAlike after_account.name seen kept
            → StandFor (remove old.directory c) old.snapshot (slice_set old.slots.items s (record { owner = owner_left slot.owner (nth_number seen 0); cell = view })) then
        by [] [] is alike =
            gone-stands old.directory old.snapshot old.slots.items sides st c s slot known here first n present fits view deals takes (λ i. none_too i || not (length (is i) == 0))
        by [] (it ∷ others) is alike = absurd alike
        by (seen ∷ rest) [] is alike = absurd alike
        by (seen ∷ rest) (it ∷ others) is alike =
            subst (λ owner. StandFor (remove old.directory c) old.snapshot (slice_set old.slots.items s (record { owner = owner; cell = view })) then) (sym (mine old.directory old.snapshot old.slots.items sides st c s slot known here))
            (left-stands old.directory old.snapshot old.slots.items sides st c s slot known here first n present fits view deals takes
            ((λ i. none_too i || not (length (is i) == 0)) ∙ ap not (ne_eqb (length (it ∷ others)) 0 (λ e. omega (arith, e)))) none_too)
