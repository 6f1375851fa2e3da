-- What a snapshot has at a cell.
use Rattle.std.proofs.Common.{◌≡◌, ℕ, ◌+◌, ◌*◌, ◌/◌, ◌%◌, ◌<◌, ◌≤◌, List, [], ◌∷◌, length, map, replicate, get_or, Option, Some, None, Result, Ok, Err, cond, refl, sym, ◌∙◌, ap, subst, arith}
use Rattle.std.specs.Prelude.{true, false, is_some, IsSome, ◌==◌, unwrap_or, OnOk, slice_index_or}
use Rattle.std.specs.Option.{option_and_then}
use Rattle.std.specs.List.{list_any}
use Rattle.std.specs.FinMap.{get}
use Rattle.std.proofs.lemmas.Bool.{false≢true}
use Rattle.std.proofs.lemmas.List.{length-map, same_lists, length-replicate, get_or-replicate}
use Rattle.std.proofs.lemmas.List.FromFn.{get_or-map-range_with_len}
use Rattle.vm_base.specs.Places.{page_of, offset_of, cell_of}
use Rattle.vm_base.specs.FlatMemory.{PageMap, byte_at, bytes_at}
use Rattle.vm_base.specs.TwoSides.{loss_of}
use Rattle.vm_base.proofs.FlatBytes.{length-bytes_at}
use Rattle.kernel_meaning.specs.Leaves.{Kept, Leaf, Own, Joined, Lost, loss_at, kept_by, is_async, holds_number}
use Rattle.kernel_meaning.specs.FrameLaw.{cell_at, losses_of}
use Rattle.vm_base.specs.declared.fork_mode.Mode.{Mode}
use Rattle.vm_base.specs.declared.refusals.Lost.{Lost as Loss}
use Rattle.kernel_meaning.specs.CellAccount.{CellAccount}
use Rattle.leaf_cell.specs.declared.snapshot.LeafState.TheVariants as state
use Rattle.leaf_cell.specs.CellView.{CellView, kept_page, part_of}
use Rattle.leaf_cell.specs.Renaming.{AreKeptAlike}
use Rattle.leaf_cell.specs.States.{state_of, leaf_state, unless_lost, kept_part, snapshot_part}
use Rattle.leaf_cell.specs.Standing.{StandsFor, IsSnapRead, snapshot_page}
use Rattle.page_tables.specs.declared.slot.Slot.{Slot}
use Rattle.page_tables.specs.declared.tables.PageTables.{PageTables}
use Rattle.page_tables.specs.declared.tables.SnapshotTables.{SnapshotTables}
use Rattle.page_tables.specs.Sides.{Sides}
use Rattle.page_tables.specs.Standing.{slot_in, numbers_at, living_number, TablesStandFor}
use Rattle.page_tables.specs.Accesses.{lost_in_range, IsSnapshotRead}
use Rattle.page_tables.proofs.LossAt.{loss_in, loss-in-leaves}
use Rattle.page_tables.proofs.RangeLosses.{one-cell}
use Rattle.page_tables.proofs.FlatParts.{bytes_at-part}
use Rattle.page_tables.proofs.ParentPages.{account_at, slot-stands, owned-here}

-- a lost leaf, from its state
leaf-lost : (mode : Mode) (leaf : Leaf) (at : ℕ) → leaf_state mode leaf ≡ state.Lost at → loss_at leaf ≡ Some at
leaf-lost mode Own at e = cc
leaf-lost mode Joined at e = elim (is_async mode) as (λ b. cond b state.Marked state.Shared ≡ state.Lost at → None ≡ Some at) [ true ↦ λ s. cc | false ↦ λ s. cc ] e
leaf-lost mode (Lost other) at e = cc

pub state-lost : (o : Option Kept) (at : ℕ) → state_of o ≡ state.Lost at → option_and_then (λ it. loss_at it.leaf) o ≡ Some at
state-lost None at e = cc
state-lost (Some kept) at e = leaf-lost kept.mode kept.leaf at e

-- what was read is not lost
leaf-read : (leaf : Leaf) (bytes got : List ℕ) → unless_lost leaf bytes ≡ Ok got → loss_at leaf ≡ None
leaf-read Own bytes got e = refl
leaf-read Joined bytes got e = refl
leaf-read (Lost at) bytes got e = cc

part-unlost : (view : CellView) (o : Option Kept) (page at n : ℕ) (got : List ℕ) → kept_part view o page at n ≡ Ok got → option_and_then (λ it. loss_at it.leaf) o ≡ None
part-unlost view None page at n got e = refl
part-unlost view (Some kept) page at n got e = leaf-read kept.leaf (part_of (kept_page view kept page) at n) got e

-- what a snapshot has lost does not depend on the names of versions
pub loss-alike : (name : ℕ → ℕ → ℕ) (n : ℕ) (view meant : List Kept) → AreKeptAlike name view meant → loss_in view n ≡ loss_in meant n
loss-alike name n [] [] alike = refl
loss-alike name n [] (o ∷ os) alike = absurd alike
loss-alike name n (i ∷ is) [] alike = absurd alike
loss-alike name n (i ∷ is) (o ∷ os) alike =
    ap (λ number. option_and_then (λ it. loss_at it.leaf) (cond (number == n) (Some i) (kept_by is n))) alike.0.number
    ∙ elim (o.number == n) as (λ b. option_and_then (λ it. loss_at it.leaf) (cond b (Some i) (kept_by is n)) ≡ option_and_then (λ it. loss_at it.leaf) (cond b (Some o) (kept_by os n))) [
      | true ↦ ap loss_at alike.0.leaf
      | false ↦ loss-alike name n is os alike.1
    ]

-- a part that a cell gave of a snapshot is not lost in what the cell stands for
pub read-unlost : (name : ℕ → ℕ → ℕ) (view : CellView) (meant : List Kept) → AreKeptAlike name view.leaves.kept meant → (n page at size : ℕ) (got : List ℕ)
    → snapshot_part view n page at size ≡ Ok got → loss_in meant n ≡ None
read-unlost name view meant alike n page at size got e = sym (loss-alike name n view.leaves.kept meant alike) ∙ part-unlost view (kept_by view.leaves.kept n) page at size got e

-- bytes of pages that are absent are zeros
pub bytes_at-nothing : (pages : PageMap) (address n : ℕ) → ((k : ℕ) → k < n → get pages (page_of (address + k)) ≡ None) → replicate n 0 ≡ bytes_at pages address n
bytes_at-nothing pages address n none = same_lists _ _ (length-replicate {A = ℕ} n 0 ∙ sym (length-bytes_at pages address n)) (λ k d small.
    let inside : k < n = omega (arith, small, length-replicate {A = ℕ} n 0) in
    get_or-replicate n k 0 d inside ∙ ap (λ o. get_or (unwrap_or o []) (offset_of (address + k)) 0) (sym (none k inside))
    ∙ sym (get_or-map-range_with_len (byte_at pages) address n k (address + k) d inside refl))

numbers-few : (snapshot : Option SnapshotTables) (c : ℕ) → length (numbers_at snapshot c) ≤ 1
numbers-few None c = omega arith
numbers-few (Some tables) c = elim (is_some (get tables.directory c)) as (λ b. length (cond b (tables.number ∷ []) []) ≤ 1) [ true ↦ omega arith | false ↦ omega arith ]

numbers-lacking : (snapshot : Option SnapshotTables) (c : ℕ) → slot_in snapshot c ≡ None → numbers_at snapshot c ≡ []
numbers-lacking None c none = refl
numbers-lacking (Some tables) c none = ap (λ o. cond (is_some o) (tables.number ∷ []) []) none

numbers-there : (snapshot : Option SnapshotTables) (c s n : ℕ) → slot_in snapshot c ≡ Some s
    → holds_number (living_number snapshot) n ≡ true
    → (number : ℕ) × ((numbers_at snapshot c ≡ number ∷ []) × ((number == n) ≡ true))
numbers-there None c s n there live = absurd (false≢true (ap is_some there))
numbers-there (Some tables) c s n there live = (tables.number, (ap (λ o. cond (is_some o) (tables.number ∷ []) []) there, live))

kept-none : (kept : List Kept) (n : ℕ) → map (λ it. it.number) kept ≡ [] → kept_by kept n ≡ None
kept-none [] n e = refl
kept-none (it ∷ others) n e = cc

kept-one : (kept : List Kept) (number n : ℕ) → map (λ it. it.number) kept ≡ number ∷ [] → (number == n) ≡ true → IsSome (kept_by kept n)
kept-one [] number n e live = cc
kept-one (it ∷ others) number n e live =
    let same : it.number ≡ number = cc in
    ap (λ m. is_some (cond (m == n) (Some it) (kept_by others n))) same ∙ ap (λ b. is_some (cond b (Some it) (kept_by others n))) live

module _ (tables : PageTables) (sides : Sides) (st : TablesStandFor tables sides) where
  -- the list of losses has of a cell what the snapshot has there
  pub loss-there : (c n : ℕ) → loss_of (losses_of sides.leaves) n c ≡ loss_in (cell_at sides.leaves c).kept n
  loss-there c n = loss-in-leaves n c sides.leaves st.kept.sorted
      (let few : length (numbers_at tables.snapshot c) ≤ 1 = numbers-few tables.snapshot c in
      let same : length (cell_at sides.leaves c).kept ≡ length (numbers_at tables.snapshot c) =
      sym (length-map (cell_at sides.leaves c).kept (λ (it : Kept). it.number)) ∙ ap length (st.snapshot_of.numbers c) in
      omega arith)

  -- a snapshot that lives has the cells of its directory
  pub kept-there : (c s n : ℕ) (pages : PageMap) → slot_in tables.snapshot c ≡ Some s → get sides.snapshots n ≡ Some pages → IsSome (kept_by (cell_at sides.leaves c).kept n)
  kept-there c s n pages there lives =
      let found : (number : ℕ) × ((numbers_at tables.snapshot c ≡ number ∷ []) × ((number == n) ≡ true)) = numbers-there tables.snapshot c s n there (sym (st.snapshot_of.live n) ∙ ap is_some lives) in
      kept-one (cell_at sides.leaves c).kept found.0 n (st.snapshot_of.numbers c ∙ found.1.0) found.1.1

  -- no snapshot has another cell
  pub kept-lacking : (c n : ℕ) → slot_in tables.snapshot c ≡ None → kept_by (cell_at sides.leaves c).kept n ≡ None
  kept-lacking c n none = kept-none (cell_at sides.leaves c).kept n (st.snapshot_of.numbers c ∙ numbers-lacking tables.snapshot c none)

  pub unlost-lacking : (c n : ℕ) → slot_in tables.snapshot c ≡ None → loss_of (losses_of sides.leaves) n c ≡ None
  unlost-lacking c n none = loss-there c n ∙ ap (option_and_then (λ it. loss_at it.leaf)) (kept-lacking c n none)

  -- nor a page there
  pub snapshot-lacking : (n page : ℕ) (pages : PageMap) → slot_in tables.snapshot (cell_of page) ≡ None → get sides.snapshots n ≡ Some pages → get pages page ≡ None
  snapshot-lacking n page pages none lives =
      let low : page % 512 < 512 = omega arith in
      let whole : page / 512 * 512 + page % 512 ≡ page = omega arith in
      ap (get pages) (sym whole) ∙ ap (option_and_then (λ it. get it (page / 512 * 512 + page % 512))) (sym lives)
      ∙ st.snapshot_of.absent n (cell_of page) (page % 512) low (ap (list_any (λ m. m == n)) (numbers-lacking tables.snapshot (cell_of page) none))

  -- a page of a snapshot in the cell's own account
  pub snapshot-known : (n page : ℕ) (pages : PageMap) → get sides.snapshots n ≡ Some pages
      → option_and_then (λ it. get it (page % 512)) (get (st.cells (cell_of page)).snapshots n) ≡ get pages page
  snapshot-known n page pages lives =
      let low : page % 512 < 512 = omega arith in
      let whole : page / 512 * 512 + page % 512 ≡ page = omega arith in
      st.each.snapshots n (cell_of page) (page % 512) low ∙ ap (option_and_then (λ it. get it (page / 512 * 512 + page % 512))) lives ∙ ap (get pages) whole

-- a part of a page that the cell of a slot gave
module _ (tables : PageTables) (sides : Sides) (st : TablesStandFor tables sides) (s n addr size : ℕ) (slot : Slot) (there : slot_in tables.snapshot (cell_of (page_of addr)) ≡ Some s)
    (here : slot ≡ slice_index_or tables.slots.items s slot) (some : 0 < size) (room : offset_of addr + size ≤ 4096) (bytes : List ℕ) (as_many : length bytes ≡ size)
    (page at : ℕ) (page_is : page ≡ page_of addr % 512) (at_is : at ≡ offset_of addr) where
  abbrev c : ℕ
  c = cell_of (page_of addr)

  abbrev account : CellAccount
  account = account_at tables.directory tables.snapshot tables.slots.items sides st c

  stood : StandsFor slot.cell (account_at tables.directory tables.snapshot tables.slots.items sides st c)
  stood = slot-stands tables.directory tables.snapshot tables.slots.items sides st c s slot
      (owned-here tables.slots.items s c slot (st.snapshot_of.named c s there) here) (st.snapshot_of.named c s there)

  -- what the list of losses has of the range
  range_loss : lost_in_range sides.leaves n addr size ≡ loss_in (st.cells c).leaves.kept n
  range_loss = one-cell (losses_of sides.leaves) n addr size some (omega arith) ∙ loss-there tables sides st c n ∙ ap (λ cell. loss_in cell.kept n) (sym (st.each.leaves c))

  pages_there : (pages : PageMap) → get sides.snapshots n ≡ Some pages → bytes ≡ part_of (snapshot_page account n page) at size → bytes ≡ bytes_at pages addr size
  pages_there pages lives told =
      let part : bytes ≡ part_of (snapshot_page account n (page_of addr % 512)) (offset_of addr) size =
      told ∙ ap (λ p. part_of (snapshot_page account n p) at size) page_is ∙ ap (λ i. part_of (snapshot_page account n (page_of addr % 512)) i size) at_is in
      part ∙ bytes_at-part pages addr size (snapshot_page account n (page_of addr % 512)) (sym (snapshot-known tables sides st n (page_of addr) pages lives)) room (sym (ap length part) ∙ as_many)

  pub snapshot-read : (result : Result (Unit {0}) Loss) → OnOk result (snapshot_part slot.cell n page at size ≡ Ok bytes)
      → ((account : CellAccount) → StandsFor slot.cell account → IsSnapRead account n page at size result bytes) → IsSnapshotRead sides n addr size result bytes
  snapshot-read (Ok done) ok told = record {
    unlost = range_loss ∙ read-unlost stood.name slot.cell (st.cells c).leaves.kept stood.leaves.kept n page at size bytes ok;
    read = λ pages lives.
        let kept : IsSome (kept_by (st.cells c).leaves.kept n) = subst (λ cell. IsSome (kept_by cell.kept n)) (sym (st.each.leaves c)) (kept-there tables sides st c s n pages there lives) in
        pages_there pages lives ((told account stood).ok kept);
    lost = tt;
  }
  snapshot-read (Err lost) ok told = record {
    unlost = tt;
    read = tt;
    lost = range_loss ∙ state-lost (kept_by (st.cells c).leaves.kept n) lost.at (told account stood).lost;
  }
