-- What is read off views is what the sides have that the slots show: the parent's pages, the cells that are somebody's, the pages that may be stored to, and the cells that a snapshot has lost. So it is of what page tables show that stand for the sides.
use Rattle.std.proofs.Common.{◌≡◌, ℕ, ◌+◌, ◌*◌, ◌/◌, ◌%◌, ◌<◌, ◌↔◌, zero, suc, List, [], ◌∷◌, length, Option, Some, None, refl, sym, ◌∙◌, ap, arith, inl, inr}
use Rattle.std.specs.Prelude.{true, false, cond, not, ◌&&◌, ◌==◌, is_some, IsSome, unwrap_or}
use Rattle.std.specs.Ordering.{nat_cmp}
use Rattle.std.specs.Option.{option_and_then}
use Rattle.std.specs.List.{slice_get}
use Rattle.std.specs.FinMap.{get, find}
use Rattle.std.specs.FinSet as set
use Rattle.std.proofs.lemmas.Bool.{cases_Bool, false≢true, and_parts, and_from, not-true, not_from_false}
use Rattle.std.proofs.lemmas.Option.{same_Some}
use Rattle.vm_base.specs.Places.{cell_of}
use Rattle.vm_base.specs.FlatMemory.{Area, area_of}
use Rattle.vm_base.specs.FlatStep.{is_read_only}
use Rattle.vm_base.proofs.NumberedMaps.{same_numbered}
use Rattle.kernel_meaning.specs.Leaves.{CellLeaves, Kept, Leaf, Own, Joined, Lost, unused_cell, loss_at, kept_by, is_async}
use Rattle.kernel_meaning.specs.FrameLaw.{cell_at}
use Rattle.leaf_cell.specs.CellView.{AreUnjoined}
use Rattle.page_tables.specs.declared.tables.PageTables.{PageTables}
use Rattle.page_tables.specs.Sides.{Sides}
use Rattle.page_tables.specs.SlotViews.{SlotView, owner_in, pages_in, used_in, is_alone_at, is_alone_in, ready_in, lost_there, lost_in, is_waiting, with_waiting, waiting_in, AreViewsOf}
use Rattle.page_tables.specs.TablesView.{views_of, pages_of}
use Rattle.page_tables.specs.Standing.{TablesStandFor}
use Rattle.page_tables.specs.Accesses.{IsPageReady}
use Rattle.page_tables.proofs.view.ViewReads.{LacksOwner, pages-lacking, pages-owned, used-lacking, used-owned, used-counted, alone-means, means-alone, alone-owned, ready-is, lost-lacking, lost-owned}
use Rattle.page_tables.proofs.view.TablesShown.{shown}

-- a leaf that was lost at a count
lost-leaf : (leaf : Leaf) (at : ℕ) → loss_at leaf ≡ Some at → leaf ≡ Lost at
lost-leaf Own at e = absurd (false≢true (ap is_some e))
lost-leaf Joined at e = absurd (false≢true (ap is_some e))
lost-leaf (Lost other) at e = ap Lost (same_Some other at e)

lost-kept : (o : Option Kept) (at : ℕ) → lost_there o ≡ Some at → (kept : Kept) × ((o ≡ Some kept) × (kept.leaf ≡ Lost at))
lost-kept None at e = absurd (false≢true (ap is_some e))
lost-kept (Some kept) at e = (kept, (refl, lost-leaf kept.leaf at e))

-- the slot of a cell
record HasSlot (views : List SlotView) (c : ℕ) : Type 0 where
  s : ℕ
  view : SlotView
  here : slice_get views s ≡ Some view
  mine : view.owner ≡ Some c

slot-of : (views : List SlotView) (s c : ℕ) → owner_in views s ≡ Some c → HasSlot views c
slot-of views s c owned = by (slice_get views s) refl owned
  where
    by : (o : Option SlotView) → slice_get views s ≡ o → option_and_then (λ view. view.owner) o ≡ Some c → HasSlot views c
    by None here owned = absurd (false≢true (ap is_some owned))
    by (Some view) here owned = record { s = s; view = view; here = here; mine = owned }

-- ---- cells that wait

-- a leaf that is not joined waits for nobody
unjoined-still : (kept : List Kept) (n : ℕ) → AreUnjoined kept → is_waiting (kept_by kept n) ≡ false
unjoined-still [] n unjoined = refl
unjoined-still (it ∷ others) n unjoined =
    elim (it.number == n) as (λ own. is_waiting (cond own (Some it) (kept_by others n)) ≡ false)
    [ true ↦ ap (λ joined. joined && is_async it.mode) unjoined.0 | false ↦ unjoined-still others n unjoined.1 ]

none-waiting : (n : ℕ) (views : List SlotView)
    → ((s : ℕ) (view : SlotView) (c : ℕ) → slice_get views s ≡ Some view → view.owner ≡ Some c → is_waiting (kept_by view.state.leaves.kept n) ≡ false) → waiting_in n views ≡ 0
none-waiting n [] still = refl
none-waiting n (view ∷ views) still = by view.owner refl (none-waiting n views (λ s it c there mine. still (suc s) it c there mine))
  where
    by : (owner : Option ℕ) → view.owner ≡ owner → waiting_in n views ≡ 0 → waiting_in n (view ∷ views) ≡ 0
    by None is rest = ap (λ owner. with_waiting owner (is_waiting (kept_by view.state.leaves.kept n)) (waiting_in n views)) is ∙ rest
    by (Some c) is rest =
        ap (λ owner. with_waiting owner (is_waiting (kept_by view.state.leaves.kept n)) (waiting_in n views)) is
        ∙ ap (λ waits. cond waits (waiting_in n views + 1) (waiting_in n views)) (still zero view c refl is) ∙ rest

-- ---- views of the two sides

module _ (views : List SlotView) (sides : Sides) (of : AreViewsOf sides views) where
  home : (c : ℕ) → is_some (find nat_cmp c sides.leaves) ≡ true → HasSlot views c
  home c used = let owned : (s : ℕ) × (owner_in views s ≡ Some c) = of.owned c used in slot-of views owned.0 c owned.1

  lacking : (c : ℕ) → is_some (find nat_cmp c sides.leaves) ≡ false → LacksOwner views c
  lacking c unused s owned = false≢true (sym unused ∙ of.used s c owned)

  -- ---- pages

  view-page : (c p : ℕ) → p < 512 → get (pages_in views) (c * 512 + p) ≡ get sides.pages (c * 512 + p)
  view-page c p small = elim (cases_Bool (is_some (find nat_cmp c sides.leaves))) [
    | inl used ↦
        let at : HasSlot views c = home c used in
        pages-owned c p small views of.once at.s at.view at.here at.mine ∙ (of.shows at.s c at.view at.here at.mine).pages p small
    | inr unused ↦ pages-lacking c p small views (lacking c unused) ∙ sym (of.absent c p small unused)
  ]

  -- the pages in the slots are the parent's
  pub view-pages : pages_in views ≡ sides.pages
  view-pages = same_numbered (pages_in views) sides.pages (λ page.
      let low : page % 512 < 512 = omega arith in
      let whole : page / 512 * 512 + page % 512 ≡ page = omega arith in
      ap (get (pages_in views)) (sym whole) ∙ view-page (page / 512) (page % 512) low ∙ ap (get sides.pages) whole)

  -- a page that is there lies in a cell that is somebody's
  pub view-page-used : (page : ℕ) → IsSome (get sides.pages page) → is_some (find nat_cmp (cell_of page) sides.leaves) ≡ true
  view-page-used page there = elim (cases_Bool (is_some (find nat_cmp (cell_of page) sides.leaves))) [
    | inl used ↦ used
    | inr unused ↦
        let low : page % 512 < 512 = omega arith in
        let whole : page / 512 * 512 + page % 512 ≡ page = omega arith in
        let none : get sides.pages page ≡ None = ap (get sides.pages) (sym whole) ∙ of.absent (cell_of page) (page % 512) low unused in
        absurd (false≢true (sym (ap is_some none) ∙ there))
  ]

  -- ---- cells

  -- a cell has a slot where it is somebody's
  pub view-used : (c : ℕ) → set.contains (used_in views) c ≡ is_some (find nat_cmp c sides.leaves)
  view-used c = elim (cases_Bool (is_some (find nat_cmp c sides.leaves))) [
    | inl used ↦ let at : HasSlot views c = home c used in used-owned c views of.once at.s at.view at.here at.mine ∙ sym used
    | inr unused ↦ used-lacking c views (lacking c unused) ∙ sym unused
  ]

  -- and as many cells have slots as are somebody's
  pub view-count : set.len (used_in views) ≡ length sides.leaves
  view-count = used-counted views of.once ∙ of.counted

  -- ---- pages that may be stored to

  -- a page is the parent's alone in the slots where it may be stored to on the sides
  pub view-alone : (page : ℕ) → IsSome (get sides.pages page) → (is_alone_in views page ≡ true) ↔ IsPageReady sides.leaves page
  view-alone page there =
      let at : HasSlot views (cell_of page) = home (cell_of page) (view-page-used page there) in
      let same : is_alone_in views page ≡ is_alone_at at.view.state.leaves (page % 512) = alone-owned page views of.once at.s at.view at.here at.mine in
      let means = (of.shows at.s (cell_of page) at.view at.here at.mine).alone (page % 512) in (
        (λ alone. means.0 (alone-means at.view.state.leaves (page % 512) (sym same ∙ alone))),
        (λ ready. same ∙ means-alone at.view.state.leaves (page % 512) (means.1 ready)),
      )

  -- a page that may be stored to is ready and present, and its area may be written
  pub view-ready : (areas : List Area) (page : ℕ) → set.contains (ready_in areas views) page ≡ true
      → IsPageReady sides.leaves page × (is_some (get sides.pages page) ≡ true) × (is_read_only (area_of areas page) ≡ false)
  view-ready areas page e =
      let parts : ((is_alone_in views page && not (is_read_only (area_of areas page))) ≡ true) × (is_some (get (pages_in views) page) ≡ true) =
      and_parts (is_alone_in views page && not (is_read_only (area_of areas page))) (is_some (get (pages_in views) page)) (sym (ready-is areas views page) ∙ e) in
      let both : (is_alone_in views page ≡ true) × (not (is_read_only (area_of areas page)) ≡ true) = and_parts (is_alone_in views page) (not (is_read_only (area_of areas page))) parts.0 in
      let present : is_some (get sides.pages page) ≡ true = ap (λ pages. is_some (get pages page)) (sym view-pages) ∙ parts.1 in
      ((view-alone page present).0 both.0, present, not-true (is_read_only (area_of areas page)) both.1)

  -- and each such page may be stored to
  pub ready-view : (areas : List Area) (page : ℕ) → IsPageReady sides.leaves page → is_some (get sides.pages page) ≡ true → is_read_only (area_of areas page) ≡ false
      → set.contains (ready_in areas views) page ≡ true
  ready-view areas page ready present writable =
      ready-is areas views page ∙ and_from (is_alone_in views page && not (is_read_only (area_of areas page))) (is_some (get (pages_in views) page))
      (and_from (is_alone_in views page) (not (is_read_only (area_of areas page))) ((view-alone page present).1 ready) (not_from_false (is_read_only (area_of areas page)) writable))
      (ap (λ pages. is_some (get pages page)) view-pages ∙ present)

  -- ---- cells that a snapshot has lost

  -- the cells that snapshot n has lost, each with the count at which it did
  pub view-lost : (n c : ℕ) → get (lost_in n views) c ≡ lost_there (kept_by (cell_at sides.leaves c).kept n)
  view-lost n c = elim (cases_Bool (is_some (find nat_cmp c sides.leaves))) [
    | inl used ↦
        let at : HasSlot views c = home c used in
        lost-owned n c views of.once at.s at.view at.here at.mine ∙ (of.shows at.s c at.view at.here at.mine).lost n
    | inr unused ↦ lost-lacking n c views (lacking c unused) ∙ by (find nat_cmp c sides.leaves) unused
  ]
    where
      by : (o : Option CellLeaves) → is_some o ≡ false → None ≡ lost_there (kept_by (unwrap_or o unused_cell).kept n)
      by None unused = refl
      by (Some cell) unused = absurd (false≢true (sym unused))

  -- what the snapshot has at a cell that it has lost
  pub lost-view : (n c at : ℕ) → get (lost_in n views) c ≡ Some at → (kept : Kept) × ((kept_by (cell_at sides.leaves c).kept n ≡ Some kept) × (kept.leaf ≡ Lost at))
  lost-view n c at e = lost-kept (kept_by (cell_at sides.leaves c).kept n) at (sym (view-lost n c) ∙ e)

  -- ---- cells that wait

  -- none waits where no leaf is joined
  pub view-waits : ((c : ℕ) → AreUnjoined (cell_at sides.leaves c).kept) → (n : ℕ) → waiting_in n views ≡ 0
  view-waits unjoined n = none-waiting n views (λ s view c there mine.
      (of.shows s c view there mine).waits n ∙ unjoined-still (cell_at sides.leaves c).kept n (unjoined c))

-- ---- what page tables show that stand for the sides

module _ (tables : PageTables) (sides : Sides) (st : TablesStandFor tables sides) where
  -- the pages in the slots are the parent's
  pub seen-pages : pages_of tables ≡ sides.pages
  seen-pages = view-pages (views_of tables) sides (shown tables sides st)

  -- a page that is there lies in a cell that is somebody's
  pub seen-page-used : (page : ℕ) → IsSome (get sides.pages page) → is_some (find nat_cmp (cell_of page) sides.leaves) ≡ true
  seen-page-used = view-page-used (views_of tables) sides (shown tables sides st)

  -- a cell has a slot where it is somebody's
  pub seen-used : (c : ℕ) → set.contains (used_in (views_of tables)) c ≡ is_some (find nat_cmp c sides.leaves)
  seen-used = view-used (views_of tables) sides (shown tables sides st)

  -- and as many cells have slots as are somebody's
  pub seen-count : set.len (used_in (views_of tables)) ≡ length sides.leaves
  seen-count = view-count (views_of tables) sides (shown tables sides st)

  -- a page that may be stored to is ready and present, and its area may be written
  pub seen-ready : (areas : List Area) (page : ℕ) → set.contains (ready_in areas (views_of tables)) page ≡ true
      → IsPageReady sides.leaves page × (is_some (get sides.pages page) ≡ true) × (is_read_only (area_of areas page) ≡ false)
  seen-ready = view-ready (views_of tables) sides (shown tables sides st)

  -- and each such page may be stored to
  pub ready-seen : (areas : List Area) (page : ℕ) → IsPageReady sides.leaves page → is_some (get sides.pages page) ≡ true → is_read_only (area_of areas page) ≡ false
      → set.contains (ready_in areas (views_of tables)) page ≡ true
  ready-seen = ready-view (views_of tables) sides (shown tables sides st)

  -- the cells that snapshot n has lost, each with the count at which it did
  pub seen-lost : (n c : ℕ) → get (lost_in n (views_of tables)) c ≡ option_and_then (λ kept. loss_at kept.leaf) (kept_by (cell_at sides.leaves c).kept n)
  seen-lost = view-lost (views_of tables) sides (shown tables sides st)

  -- what the snapshot has at a cell that it has lost
  pub lost-seen : (n c at : ℕ) → get (lost_in n (views_of tables)) c ≡ Some at → (kept : Kept) × ((kept_by (cell_at sides.leaves c).kept n ≡ Some kept) × (kept.leaf ≡ Lost at))
  lost-seen = lost-view (views_of tables) sides (shown tables sides st)

  -- and each such cell is among them
  pub seen-loss : (n c at : ℕ) (kept : Kept) → kept_by (cell_at sides.leaves c).kept n ≡ Some kept → kept.leaf ≡ Lost at → get (lost_in n (views_of tables)) c ≡ Some at
  seen-loss n c at kept there lost = seen-lost n c ∙ ap lost_there there ∙ ap loss_at lost

  -- no cell waits
  pub seen-waits : (n : ℕ) → waiting_in n (views_of tables) ≡ 0
  seen-waits = view-waits (views_of tables) sides (shown tables sides st) st.kept.unjoined
