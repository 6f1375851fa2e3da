-- The store of bytes within a page of a cell that the directory has.
use Rattle.std.proofs.Common.{◌≡◌, ◌≢◌, ℕ, ◌+◌, ◌*◌, ◌/◌, ◌%◌, ◌<◌, ◌≤◌, List, [], ◌∷◌, length, map, Some, None, refl, sym, ◌∙◌, ap, subst, arith, inl, inr}
use Rattle.std.specs.Prelude.{true, not, ◌||◌, ◌==◌, is_some, slice_set, slice_index_or, unwrap_or}
use Rattle.std.specs.Option.{option_and_then}
use Rattle.std.specs.List.{slice_get}
use Rattle.std.specs.FinMap.{get, insert, put}
use Rattle.std.proofs.lemmas.Bool.{cases_eq}
use Rattle.vm_base.specs.Places.{page_of, offset_of, cell_of}
use Rattle.vm_base.specs.FlatMemory.{PageMap, zero_page}
use Rattle.vm_base.specs.FlatStep.{with_byte, with_bytes}
use Rattle.vm_base.proofs.NumberedMaps.{get_inserted_here, get_inserted_apart}
use Rattle.kernel_meaning.specs.Leaves.{has_pages}
use Rattle.kernel_meaning.specs.FrameLaw.{cell_at, with_cell, is_used}
use Rattle.kernel_meaning.specs.CellAccount.{CellState, CellAccount, Store}
use Rattle.leaf_cell.specs.CellView.{CellView, AreUnjoined}
use Rattle.leaf_cell.specs.Standing.{StandsFor, TakesAccount}
use Rattle.leaf_cell.specs.Touching.{IsAlone}
use Rattle.leaf_cell.proofs.SameReads.{alone-stands}
use Rattle.page_tables.specs.declared.slot.Slot.{Slot}
use Rattle.page_tables.specs.declared.tables.PageTables.{PageTables}
use Rattle.page_tables.specs.Sides.{Sides}
use Rattle.page_tables.specs.Standing.{StandFor, TablesStandFor}
use Rattle.page_tables.specs.Accesses.{IsPageReady}
use Rattle.page_tables.proofs.SlotLemmas.{owner-same}
use Rattle.page_tables.proofs.Again.{with_cell-same}
use Rattle.page_tables.proofs.Acting.{tables-acted}
use Rattle.page_tables.proofs.ParentPages.{account_at, slot-stands, owned-here}

-- the pages of a cell, within all pages
abbrev IsPartOf : ℕ → PageMap → PageMap → Type 0
IsPartOf c part pages = (p : ℕ) → p < 512 → get part p ≡ get pages (c * 512 + p)

-- one byte is stored on both sides
byte-inside : (part pages : PageMap) (c page at byte : ℕ) → page < 512 → at < 4096 → IsPartOf c part pages
    → IsPartOf c (with_byte part (page * 4096 + at) byte) (with_byte pages ((c * 512 + page) * 4096 + at) byte)
byte-inside part pages c page at byte small room alike p low =
    let near : page_of (page * 4096 + at) ≡ page = omega arith in
    let near_at : offset_of (page * 4096 + at) ≡ at = omega arith in
    let far : page_of ((c * 512 + page) * 4096 + at) ≡ c * 512 + page = omega arith in
    let far_at : offset_of ((c * 512 + page) * 4096 + at) ≡ at = omega arith in
    let left : with_byte part (page * 4096 + at) byte ≡ insert part page (slice_set (unwrap_or (get part page) zero_page) at byte) =
    ap (λ q. insert part q (slice_set (unwrap_or (get part q) zero_page) (offset_of (page * 4096 + at)) byte)) near
    ∙ ap (λ i. insert part page (slice_set (unwrap_or (get part page) zero_page) i byte)) near_at in
    let right : with_byte pages ((c * 512 + page) * 4096 + at) byte ≡ insert pages (c * 512 + page) (slice_set (unwrap_or (get pages (c * 512 + page)) zero_page) at byte) =
    ap (λ q. insert pages q (slice_set (unwrap_or (get pages q) zero_page) (offset_of ((c * 512 + page) * 4096 + at)) byte)) far
    ∙ ap (λ i. insert pages (c * 512 + page) (slice_set (unwrap_or (get pages (c * 512 + page)) zero_page) i byte)) far_at in
    ap (λ m. get m p) left ∙ elim (cases_eq p page) [
      | inl here ↦ get_inserted_here part page _ p here ∙ ap (λ o. Some (slice_set (unwrap_or o zero_page) at byte)) (alike page small)
          ∙ sym (get_inserted_here pages (c * 512 + page) _ (c * 512 + p) (ap (λ q. c * 512 + q) here))
      | inr apart ↦ get_inserted_apart part page _ p apart ∙ alike p low
          ∙ sym (get_inserted_apart pages (c * 512 + page) _ (c * 512 + p) (λ e. apart (omega arith)))
    ] ∙ sym (ap (λ m. get m (c * 512 + p)) right)

byte-outside : (pages : PageMap) (c page at byte q : ℕ) → page < 512 → at < 4096 → q / 512 ≢ c → get (with_byte pages ((c * 512 + page) * 4096 + at) byte) q ≡ get pages q
byte-outside pages c page at byte q small room apart =
    let far : page_of ((c * 512 + page) * 4096 + at) ≡ c * 512 + page = omega arith in
    get_inserted_apart pages (page_of ((c * 512 + page) * 4096 + at)) _ q (λ e. apart (omega arith))

-- bytes within one page are stored on both sides
pub bytes-inside : (bytes : List ℕ) (part pages : PageMap) (c page at : ℕ) → page < 512 → at + length bytes ≤ 4096 → IsPartOf c part pages
    → IsPartOf c (with_bytes part (page * 4096 + at) bytes) (with_bytes pages ((c * 512 + page) * 4096 + at) bytes)
bytes-inside [] part pages c page at small room alike = alike
bytes-inside (byte ∷ bytes) part pages c page at small room alike = λ p low.
    let near : page * 4096 + at + 1 ≡ page * 4096 + (at + 1) = omega arith in
    let far : (c * 512 + page) * 4096 + at + 1 ≡ (c * 512 + page) * 4096 + (at + 1) = omega arith in
    ap (λ a. get (with_bytes (with_byte part (page * 4096 + at) byte) a bytes) p) near
    ∙ bytes-inside bytes (with_byte part (page * 4096 + at) byte) (with_byte pages ((c * 512 + page) * 4096 + at) byte) c page (at + 1) small (omega arith)
    (byte-inside part pages c page at byte small (omega arith) alike) p low
    ∙ sym (ap (λ a. get (with_bytes (with_byte pages ((c * 512 + page) * 4096 + at) byte) a bytes) (c * 512 + p)) far)

pub bytes-outside : (bytes : List ℕ) (pages : PageMap) (c page at q : ℕ) → page < 512 → at + length bytes ≤ 4096 → q / 512 ≢ c
    → get (with_bytes pages ((c * 512 + page) * 4096 + at) bytes) q ≡ get pages q
bytes-outside [] pages c page at q small room apart = refl
bytes-outside (byte ∷ bytes) pages c page at q small room apart =
    let far : (c * 512 + page) * 4096 + at + 1 ≡ (c * 512 + page) * 4096 + (at + 1) = omega arith in
    ap (λ a. get (with_bytes (with_byte pages ((c * 512 + page) * 4096 + at) byte) a bytes) q) far
    ∙ bytes-outside bytes (with_byte pages ((c * 512 + page) * 4096 + at) byte) c page (at + 1) q small (omega arith) apart
    ∙ byte-outside pages c page at byte q small (omega arith) apart

-- a page that is the parent's alone in the account is so in the cell
pub alone-view : (view : CellView) (account : CellAccount) → StandsFor view account → (page : ℕ) → IsAlone account.state.leaves page → IsAlone view.leaves page
alone-view view account stands page alone = alone-stands view account stands page alone

module _ (old : PageTables) (sides : Sides) (st : TablesStandFor old sides) (addr s : ℕ) (bytes : List ℕ) (slot : Slot)
    (known : get old.directory (cell_of (page_of addr)) ≡ Some s) (read : slot ≡ slice_index_or old.slots.items s slot) (page at : ℕ) (page_is : page ≡ page_of addr % 512) (at_is : at ≡ offset_of addr) where
  abbrev c : ℕ
  c = cell_of (page_of addr)

  abbrev p : ℕ
  p = page_of addr % 512

  here : slice_get old.slots.items s ≡ Some slot
  here = owned-here old.slots.items s c slot (st.named c s known) read

  stood : StandsFor slot.cell (account_at old.directory old.snapshot old.slots.items sides st c)
  stood = slot-stands old.directory old.snapshot old.slots.items sides st c s slot here (st.named c s known)

  -- the cell may be stored to where the page is ready
  pub ready-view : IsPageReady sides.leaves (page_of addr) → IsAlone slot.cell.leaves page
  ready-view ready = subst (IsAlone slot.cell.leaves) (sym page_is) (alone-stands slot.cell (account_at old.directory old.snapshot old.slots.items sides st c) stood p (subst (λ cell. IsAlone cell p) (sym (st.each.leaves c)) ready))

  module _ (view : CellView) (room : offset_of addr + length bytes ≤ 4096)
      (stored : (account : CellAccount) → StandsFor slot.cell account → TakesAccount (Store page at bytes) slot.cell view [] None account) where
    abbrev state : CellState
    state = record { leaves = (st.cells c).leaves; pages = with_bytes (st.cells c).pages (p * 4096 + offset_of addr) bytes; snapshots = (st.cells c).snapshots }

    abbrev stored_account : ℕ → ℕ → CellAccount
    stored_account q i = record { state = record { leaves = (st.cells c).leaves; pages = with_bytes (st.cells c).pages (q * 4096 + i) bytes; snapshots = (st.cells c).snapshots }; made = sides.made }

    abbrev new_slots : List Slot
    new_slots = slice_set old.slots.items s (record { owner = Some c; cell = view })

    mine : slot.owner ≡ Some c
    mine = sym (ap (option_and_then (λ it. it.owner)) here) ∙ st.named c s known

    has : has_pages (cell_at sides.leaves c).parent ≡ true
    has = sym (st.parent c) ∙ ap is_some known

    used : is_used (cell_at sides.leaves c) ≡ true
    used = ap (λ b. b || not (length (cell_at sides.leaves c).kept == 0)) has

    same_leaves : with_cell sides.leaves c (st.cells c).leaves ≡ sides.leaves
    same_leaves = ap (with_cell sides.leaves c) (st.each.leaves c) ∙ with_cell-same sides.leaves c st.kept

    whole : (c * 512 + p) * 4096 + offset_of addr ≡ addr
    whole = omega arith

    low : p < 512
    low = omega arith

    inside : (q : ℕ) → q < 512 → get state.pages q ≡ get (with_bytes sides.pages addr bytes) (c * 512 + q)
    inside q small = bytes-inside bytes (st.cells c).pages sides.pages c p (offset_of addr) low room (st.each.pages c) q small ∙ ap (λ a. get (with_bytes sides.pages a bytes) (c * 512 + q)) whole

    outside : (q : ℕ) → q / 512 ≢ c → get (with_bytes sides.pages addr bytes) q ≡ get sides.pages q
    outside q apart = ap (λ a. get (with_bytes sides.pages a bytes) q) (sym whole) ∙ bytes-outside bytes sides.pages c p (offset_of addr) q low room apart

    abbrev then : Sides
    then = record sides { pages = with_bytes sides.pages addr bytes }

    stands_then : StandFor old.directory old.snapshot new_slots (record { leaves = with_cell sides.leaves c (st.cells c).leaves; pages = with_bytes sides.pages addr bytes; snapshots = sides.snapshots; made = sides.made })
    stands_then = tables-acted old.directory old.snapshot old.slots.items sides st c s slot here (inl mine) view state sides.made (omega arith)
        (ap is_used (st.each.leaves c) ∙ used)
        (ap (λ cell. length cell.parent) (st.each.leaves c) ∙ st.kept.sizes c)
        (subst (λ cell. AreUnjoined cell.kept) (sym (st.each.leaves c)) (st.kept.unjoined c))
        (subst (λ q. StandsFor view (stored_account q (offset_of addr))) page_is (subst (λ i. StandsFor view (stored_account page i)) at_is (stored (account_at old.directory old.snapshot old.slots.items sides st c) stood).stands))
        (with_bytes sides.pages addr bytes) inside outside refl
        (ap (λ cell. map (λ it. it.number) cell.kept) (st.each.leaves c)) old.directory
        (λ q. st.parent q ∙ ap (λ leaves. has_pages (cell_at leaves q).parent) (sym same_leaves))
        (λ q t e. owner-same old.slots.items s c slot view here mine t ∙ st.named q t e)

    pub stands-stored : (new : PageTables) → new.directory ≡ old.directory → new.snapshot ≡ old.snapshot → new.slots.items ≡ slice_set old.slots.items s (record { owner = slot.owner; cell = view }) → TablesStandFor new then
    stands-stored new same alike put =
        let set : new.slots.items ≡ new_slots = put ∙ ap (λ owner. slice_set old.slots.items s (record { owner = owner; cell = view })) mine in
        subst (λ d. StandFor d new.snapshot new.slots.items then) (sym same) (subst (λ it. StandFor old.directory it new.slots.items then) (sym alike)
        (subst (λ items. StandFor old.directory old.snapshot items then) (sym set)
        (subst (λ leaves. StandFor old.directory old.snapshot new_slots (record { leaves = leaves; pages = with_bytes sides.pages addr bytes; snapshots = sides.snapshots; made = sides.made })) same_leaves stands_then)))
