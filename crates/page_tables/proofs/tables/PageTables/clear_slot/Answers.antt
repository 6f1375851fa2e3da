use Rattle.std.proofs.Common.{◌≡◌, ℕ, ◌+◌, ◌-◌, ◌≤◌, ◌<◌, length, Some, None, eqb, sym, ◌∙◌, ap, subst, refl, arith}
use Rattle.std.specs.Prelude.{slice_set, true, false}
use Rattle.std.specs.FinMap.{get, remove}
use Rattle.std.specs.Vec.{with_item}
use Rattle.std.specs.List.{slice_get}
use Rattle.vm_base.specs.Deals.{Returned, LeadsAlong}
use Rattle.vm_base.proofs.DealLemmas.{LeadsAlong-append}
use Rattle.leaf_cell.specs.CellView.{held_of}
use Rattle.leaf_cell.proofs.Releases.{replicate-both}
use Rattle.kernel_meaning.specs.Leaves.{has_present, has_pages}
use Rattle.kernel_meaning.specs.FrameLaw.{cell_at}
use Rattle.table_levels.specs.Cells.{tables_of}
use Rattle.table_levels.specs.Requests.{returned}
use Rattle.page_tables.specs.declared.slot.Slot.{Slot}
use Rattle.page_tables.specs.declared.tables.PageTables.{PageTables}
use Rattle.page_tables.specs.Clearing.{sides_without}
use Rattle.page_tables.specs.Sides.{Sides}
use Rattle.page_tables.specs.Standing.{StandFor, TablesStandFor}
use Rattle.page_tables.specs.Held.{frames_in, snapshot_frames}
use Rattle.page_tables.proofs.OwnedSlots.{owned-within, held-within, frames-set, read-slot}
use Rattle.page_tables.proofs.ClearedSlot.{present-here, HoldsShare, less-held, deals-are, freed-are, event-made, stays, leaves-cell, even-here, still-even}
use Rattle.std.proofs.lemmas.Bool.{cond-true, cond-false, eq-eqb, ne_eqb, false≢true}
use Rattle.table_levels.proofs.CellLemmas.{get_removed}
use Rattle.leaf_cell.specs.Writable.{writable_at}
use Rattle.page_tables.proofs.ClearedCell.{present-pages}
use Rattle.page_tables.proofs.KeptWriting.{none-left, stops-here, stops-gone}
use Rattle.page_tables.proofs.Known.{standing, known-owner, known-unjoined, known-number, known-below, known-test, known-deals}
use Rattle.page_tables.proofs.tables.PageTables.clear_slot.Goals as goal

module _ (tables : PageTables) (c first n : ℕ) (known : ∥ ((sides : Sides) × (TablesStandFor tables sides × (has_present (cell_at sides.leaves c).parent first n ≡ true))) ∥₁) where
  standing-here : ∥ ((sides : Sides) × TablesStandFor tables sides) ∥₁
  standing-here = standing tables (λ sides. has_present (cell_at sides.leaves c).parent first n ≡ true) known

  -- the slot of the cell is one of the slots
  slot-within : (s : ℕ) → get tables.directory c ≡ Some s → s < length tables.slots.items
  slot-within s there = owned-within tables.slots.items s c (known-owner tables standing-here c s there)

-- src/clear.rt:67:25
pub index_mut-home-requires : goal.index_mut-home-requires
index_mut-home-requires g c =
    let within : c.args.slot < length c.args.self.now.slots.items = slot-within c.args.self.now c.args.cell c.args.first c.args.count c.requires.stands c.args.slot c.requires.known in
    subst (λ n. c.args.slot < n) (sym c.args.self.now.slots.ok.0) within

pub clear-requires-clause-unjoined : goal.clear-requires-clause-unjoined
clear-requires-clause-unjoined g c = λ _.
    let within : c.args.slot < length c.args.self.now.slots.items = slot-within c.args.self.now c.args.cell c.args.first c.args.count c.requires.stands c.args.slot c.requires.known in
    known-unjoined c.args.self.now (standing-here c.args.self.now c.args.cell c.args.first c.args.count c.requires.stands) c.args.slot c.index_mut-home.result.now
    (read-slot c.args.self.now.slots.items c.args.slot c.index_mut-home.result.now within c.index_mut-home.ensures.value)

pub clear-requires-clause-held : goal.clear-requires-clause-held
clear-requires-clause-held g c =
    let within : c.args.slot < length c.args.self.now.slots.items = slot-within c.args.self.now c.args.cell c.args.first c.args.count c.requires.stands c.args.slot c.requires.known in
    let part : held_of c.index_mut-home.result.now.cell ≤ frames_in c.args.self.now.slots.items = held-within c.args.self.now.slots.items c.args.slot c.index_mut-home.result.now (read-slot c.args.self.now.slots.items c.args.slot c.index_mut-home.result.now within c.index_mut-home.ensures.value) in
    let lent : tables_of c.args.self.now.directory + snapshot_frames c.args.self.now.snapshot + frames_in c.args.self.now.slots.items ≤ g.A.Allot.out (g.A.Allot.state c.args.allot.now) = c.requires.lent in
    omega (arith, part, lent)

pub remove-requires-clause-lent : goal.remove-requires-clause-lent
remove-requires-clause-lent g c =
    let within : c.args.slot < length c.args.self.now.slots.items = slot-within c.args.self.now c.args.cell c.args.first c.args.count c.requires.stands c.args.slot c.requires.known in
    let part : held_of c.index_mut-home.result.now.cell ≤ frames_in c.args.self.now.slots.items = held-within c.args.self.now.slots.items c.args.slot c.index_mut-home.result.now (read-slot c.args.self.now.slots.items c.args.slot c.index_mut-home.result.now within c.index_mut-home.ensures.value) in
    let lent : tables_of c.args.self.now.directory + snapshot_frames c.args.self.now.snapshot + frames_in c.args.self.now.slots.items ≤ g.A.Allot.out (g.A.Allot.state c.args.allot.now) = c.requires.lent in
    let held : g.A.Allot.out (g.A.Allot.state c.clear.new.allot) + held_of c.index_mut-home.result.now.cell ≡ g.A.Allot.out (g.A.Allot.state c.args.allot.now) + held_of c.clear.new.self = c.clear.ensures.held in
    omega (arith, part, lent, held)

pub returns-then-not-has_pages-clause-given : goal.returns-then-not-has_pages-clause-given
returns-then-not-has_pages-clause-given g c =
    let old : PageTables = c.args.self.now in
    let within : c.args.slot < length old.slots.items = slot-within c.args.self.now c.args.cell c.args.first c.args.count c.requires.stands c.args.slot c.requires.known in
    let here : slice_get old.slots.items c.args.slot ≡ Some c.index_mut-home.result.now = read-slot old.slots.items c.args.slot c.index_mut-home.result.now within c.index_mut-home.ensures.value in
    let before : HoldsShare c.index_mut-home.result.now.cell = λ account stands. c.tell_share.ensures account stands in
    let later : HoldsShare c.clear.new.self = λ account stands. c.tell_share-2.ensures account stands in
    let slot : Slot = c.index_mut-home.result.now in
    let made = c.clear.ensures.made in
    let deals : made.deals ≡ returned (held_of slot.cell - held_of c.clear.new.self) = known-deals c.requires.stands (λ it. deals-are old c.args.cell c.args.slot c.args.first c.args.count slot c.requires.known here c.requires.range
    c.clear.new.self made.deals made.follows before later it.0 it.1.0 it.1.1) in
    let freed : (tables_of old.directory + snapshot_frames old.snapshot + frames_in old.slots.items) - (tables_of c.remove.new.self + snapshot_frames old.snapshot + frames_in (slice_set old.slots.items c.args.slot c.leave_slot.new.home))
    ≡ (held_of slot.cell - held_of c.clear.new.self) + (tables_of old.directory - tables_of c.remove.new.self) =
    known-number c.requires.stands (λ it. freed-are old c.args.cell c.args.slot c.args.first c.args.count slot c.requires.known here c.requires.range c.clear.new.self made.deals made.follows before later it.0 it.1.0 it.1.1
    c.remove.new.self c.leave_slot.new.home (ap (λ it. it.cell) c.leave_slot.ensures) c.remove.ensures.shrunk) in
    subst (λ n. LeadsAlong g.A.Allot.goes (g.A.Allot.state c.args.allot.now) (returned n) (g.A.Allot.state c.remove.new.allot)) (sym freed)
    (subst (λ deals. LeadsAlong g.A.Allot.goes (g.A.Allot.state c.args.allot.now) deals (g.A.Allot.state c.remove.new.allot)) (replicate-both Returned (held_of slot.cell - held_of c.clear.new.self) (tables_of old.directory - tables_of c.remove.new.self))
    (LeadsAlong-append g.A.Allot.goes (returned (held_of slot.cell - held_of c.clear.new.self)) (returned (tables_of old.directory - tables_of c.remove.new.self))
    (g.A.Allot.state c.args.allot.now) (g.A.Allot.state c.clear.new.allot) (g.A.Allot.state c.remove.new.allot)
    (subst (λ deals. LeadsAlong g.A.Allot.goes (g.A.Allot.state c.args.allot.now) deals (g.A.Allot.state c.clear.new.allot)) deals made.led) c.remove.ensures.given))

pub returns-then-not-has_pages-clause-shrunk : goal.returns-then-not-has_pages-clause-shrunk
returns-then-not-has_pages-clause-shrunk g c =
    let old : PageTables = c.args.self.now in
    let within : c.args.slot < length old.slots.items = slot-within c.args.self.now c.args.cell c.args.first c.args.count c.requires.stands c.args.slot c.requires.known in
    let here : slice_get old.slots.items c.args.slot ≡ Some c.index_mut-home.result.now = read-slot old.slots.items c.args.slot c.index_mut-home.result.now within c.index_mut-home.ensures.value in
    let before : HoldsShare c.index_mut-home.result.now.cell = λ account stands. c.tell_share.ensures account stands in
    let later : HoldsShare c.clear.new.self = λ account stands. c.tell_share-2.ensures account stands in
    let slot : Slot = c.index_mut-home.result.now in
    let made = c.clear.ensures.made in
    let less : held_of c.clear.new.self ≤ held_of slot.cell = known-below c.requires.stands (λ it. less-held old c.args.cell c.args.slot c.args.first c.args.count slot c.requires.known here c.requires.range
    c.clear.new.self made.deals made.follows before later it.0 it.1.0 it.1.1) in
    let sums : frames_in (slice_set old.slots.items c.args.slot c.leave_slot.new.home) + held_of slot.cell ≡ frames_in old.slots.items + held_of c.clear.new.self =
    frames-set old.slots.items c.args.slot slot c.leave_slot.new.home here ∙ ap (λ it. frames_in old.slots.items + held_of it.cell) c.leave_slot.ensures in
    let fewer : tables_of c.remove.new.self ≤ tables_of old.directory = c.remove.ensures.shrunk in
    omega (arith, less, sums, fewer)

pub returns-then-not-has_pages-clause-follows : goal.returns-then-not-has_pages-clause-follows
returns-then-not-has_pages-clause-follows g c = λ sides st.
    let old : PageTables = c.args.self.now in
    let within : c.args.slot < length old.slots.items = slot-within c.args.self.now c.args.cell c.args.first c.args.count c.requires.stands c.args.slot c.requires.known in
    let here : slice_get old.slots.items c.args.slot ≡ Some c.index_mut-home.result.now = read-slot old.slots.items c.args.slot c.index_mut-home.result.now within c.index_mut-home.ensures.value in
    let before : HoldsShare c.index_mut-home.result.now.cell = λ account stands. c.tell_share.ensures account stands in
    let later : HoldsShare c.clear.new.self = λ account stands. c.tell_share-2.ensures account stands in
    let slot : Slot = c.index_mut-home.result.now in
    let made = c.clear.ensures.made in
    let seen : has_present (cell_at sides.leaves c.args.cell).parent c.args.first c.args.count ≡ true =
    sym (present-here old c.args.cell c.args.slot c.args.first c.args.count slot c.requires.known here c.requires.range sides st)
    ∙ known-test c.requires.stands (λ it. present-here old c.args.cell c.args.slot c.args.first c.args.count slot c.requires.known here c.requires.range it.0 it.1.0 ∙ it.1.1) in
    let none : has_pages c.clear.new.self.leaves.parent ≡ false = sym c.has_pages.ensures.pages ∙ c.if-not-has_pages.true in
    subst (λ d. StandFor d old.snapshot (slice_set old.slots.items c.args.slot c.leave_slot.new.home) (sides_without c.args.cell c.args.first c.args.count sides)) (sym c.remove.ensures.removed)
    (subst (λ new. StandFor (remove old.directory c.args.cell) old.snapshot (slice_set old.slots.items c.args.slot new) (sides_without c.args.cell c.args.first c.args.count sides)) (sym c.leave_slot.ensures)
    (leaves-cell old c.args.cell c.args.slot c.args.first c.args.count slot c.requires.known here c.requires.range c.clear.new.self made.deals made.follows before later sides st seen
    none))

pub returns-then-not-has_pages-clause-event : goal.returns-then-not-has_pages-clause-event
returns-then-not-has_pages-clause-event g c = λ sides st.
    let old : PageTables = c.args.self.now in
    let within : c.args.slot < length old.slots.items = slot-within c.args.self.now c.args.cell c.args.first c.args.count c.requires.stands c.args.slot c.requires.known in
    let here : slice_get old.slots.items c.args.slot ≡ Some c.index_mut-home.result.now = read-slot old.slots.items c.args.slot c.index_mut-home.result.now within c.index_mut-home.ensures.value in
    let before : HoldsShare c.index_mut-home.result.now.cell = λ account stands. c.tell_share.ensures account stands in
    let later : HoldsShare c.clear.new.self = λ account stands. c.tell_share-2.ensures account stands in
    let slot : Slot = c.index_mut-home.result.now in
    let made = c.clear.ensures.made in
    let seen : has_present (cell_at sides.leaves c.args.cell).parent c.args.first c.args.count ≡ true =
    sym (present-here old c.args.cell c.args.slot c.args.first c.args.count slot c.requires.known here c.requires.range sides st)
    ∙ known-test c.requires.stands (λ it. present-here old c.args.cell c.args.slot c.args.first c.args.count slot c.requires.known here c.requires.range it.0 it.1.0 ∙ it.1.1) in
    let none : has_pages c.clear.new.self.leaves.parent ≡ false = sym c.has_pages.ensures.pages ∙ c.if-not-has_pages.true in
    let now : StandFor c.remove.new.self old.snapshot (slice_set old.slots.items c.args.slot c.leave_slot.new.home) (sides_without c.args.cell c.args.first c.args.count sides) =
    subst (λ d. StandFor d old.snapshot (slice_set old.slots.items c.args.slot c.leave_slot.new.home) (sides_without c.args.cell c.args.first c.args.count sides)) (sym c.remove.ensures.removed)
    (subst (λ new. StandFor (remove old.directory c.args.cell) old.snapshot (slice_set old.slots.items c.args.slot new) (sides_without c.args.cell c.args.first c.args.count sides)) (sym c.leave_slot.ensures)
    (leaves-cell old c.args.cell c.args.slot c.args.first c.args.count slot c.requires.known here c.requires.range c.clear.new.self made.deals made.follows before later sides st seen
    none)) in
    event-made old c.args.cell c.args.slot c.args.first c.args.count slot c.requires.known here c.requires.range c.clear.new.self made.deals made.follows before later sides st seen
    c.remove.new.self c.leave_slot.new.home (ap (λ it. it.cell) c.leave_slot.ensures) c.remove.ensures.shrunk now

pub returns-then-not-has_pages-clause-held : goal.returns-then-not-has_pages-clause-held
returns-then-not-has_pages-clause-held g c =
    let old : PageTables = c.args.self.now in
    let within : c.args.slot < length old.slots.items = slot-within c.args.self.now c.args.cell c.args.first c.args.count c.requires.stands c.args.slot c.requires.known in
    let here : slice_get old.slots.items c.args.slot ≡ Some c.index_mut-home.result.now = read-slot old.slots.items c.args.slot c.index_mut-home.result.now within c.index_mut-home.ensures.value in
    let slot : Slot = c.index_mut-home.result.now in
    let sums : frames_in (slice_set old.slots.items c.args.slot c.leave_slot.new.home) + held_of slot.cell ≡ frames_in old.slots.items + held_of c.clear.new.self =
    frames-set old.slots.items c.args.slot slot c.leave_slot.new.home here ∙ ap (λ it. frames_in old.slots.items + held_of it.cell) c.leave_slot.ensures in
    let held : g.A.Allot.out (g.A.Allot.state c.clear.new.allot) + held_of slot.cell ≡ g.A.Allot.out (g.A.Allot.state c.args.allot.now) + held_of c.clear.new.self = c.clear.ensures.held in
    let back : g.A.Allot.out (g.A.Allot.state c.remove.new.allot) + tables_of old.directory ≡ g.A.Allot.out (g.A.Allot.state c.clear.new.allot) + tables_of c.remove.new.self = c.remove.ensures.out in
    omega (arith, sums, held, back)

pub returns-else-not-has_pages-clause-given : goal.returns-else-not-has_pages-clause-given
returns-else-not-has_pages-clause-given g c =
    let old : PageTables = c.args.self.now in
    let within : c.args.slot < length old.slots.items = slot-within c.args.self.now c.args.cell c.args.first c.args.count c.requires.stands c.args.slot c.requires.known in
    let here : slice_get old.slots.items c.args.slot ≡ Some c.index_mut-home.result.now = read-slot old.slots.items c.args.slot c.index_mut-home.result.now within c.index_mut-home.ensures.value in
    let before : HoldsShare c.index_mut-home.result.now.cell = λ account stands. c.tell_share.ensures account stands in
    let later : HoldsShare c.clear.new.self = λ account stands. c.tell_share-2.ensures account stands in
    let slot : Slot = c.index_mut-home.result.now in
    let new : Slot = record { owner = slot.owner; cell = c.clear.new.self } in
    let made = c.clear.ensures.made in
    let deals : made.deals ≡ returned (held_of slot.cell - held_of c.clear.new.self) = known-deals c.requires.stands (λ it. deals-are old c.args.cell c.args.slot c.args.first c.args.count slot c.requires.known here c.requires.range
    c.clear.new.self made.deals made.follows before later it.0 it.1.0 it.1.1) in
    let same : tables_of old.directory ≤ tables_of old.directory = omega arith in
    let none : held_of slot.cell - held_of c.clear.new.self + (tables_of old.directory - tables_of old.directory) ≡ held_of slot.cell - held_of c.clear.new.self = omega arith in
    let freed : (tables_of old.directory + snapshot_frames old.snapshot + frames_in old.slots.items) - (tables_of old.directory + snapshot_frames old.snapshot + frames_in (slice_set old.slots.items c.args.slot new))
    ≡ held_of slot.cell - held_of c.clear.new.self =
    known-number c.requires.stands (λ it. freed-are old c.args.cell c.args.slot c.args.first c.args.count slot c.requires.known here c.requires.range c.clear.new.self made.deals made.follows before later it.0 it.1.0 it.1.1
    old.directory new refl same) ∙ none in
    subst (λ deals. LeadsAlong g.A.Allot.goes (g.A.Allot.state c.args.allot.now) deals (g.A.Allot.state c.clear.new.allot)) (deals ∙ ap returned (sym freed)) made.led

pub returns-else-not-has_pages-clause-shrunk : goal.returns-else-not-has_pages-clause-shrunk
returns-else-not-has_pages-clause-shrunk g c =
    let old : PageTables = c.args.self.now in
    let within : c.args.slot < length old.slots.items = slot-within c.args.self.now c.args.cell c.args.first c.args.count c.requires.stands c.args.slot c.requires.known in
    let here : slice_get old.slots.items c.args.slot ≡ Some c.index_mut-home.result.now = read-slot old.slots.items c.args.slot c.index_mut-home.result.now within c.index_mut-home.ensures.value in
    let before : HoldsShare c.index_mut-home.result.now.cell = λ account stands. c.tell_share.ensures account stands in
    let later : HoldsShare c.clear.new.self = λ account stands. c.tell_share-2.ensures account stands in
    let slot : Slot = c.index_mut-home.result.now in
    let new : Slot = record { owner = slot.owner; cell = c.clear.new.self } in
    let made = c.clear.ensures.made in
    let less : held_of c.clear.new.self ≤ held_of slot.cell = known-below c.requires.stands (λ it. less-held old c.args.cell c.args.slot c.args.first c.args.count slot c.requires.known here c.requires.range
    c.clear.new.self made.deals made.follows before later it.0 it.1.0 it.1.1) in
    let sums : frames_in (slice_set old.slots.items c.args.slot new) + held_of slot.cell ≡ frames_in old.slots.items + held_of c.clear.new.self = frames-set old.slots.items c.args.slot slot new here in
    omega (arith, less, sums)

pub returns-else-not-has_pages-clause-follows : goal.returns-else-not-has_pages-clause-follows
returns-else-not-has_pages-clause-follows g c = λ sides st.
    let old : PageTables = c.args.self.now in
    let within : c.args.slot < length old.slots.items = slot-within c.args.self.now c.args.cell c.args.first c.args.count c.requires.stands c.args.slot c.requires.known in
    let here : slice_get old.slots.items c.args.slot ≡ Some c.index_mut-home.result.now = read-slot old.slots.items c.args.slot c.index_mut-home.result.now within c.index_mut-home.ensures.value in
    let before : HoldsShare c.index_mut-home.result.now.cell = λ account stands. c.tell_share.ensures account stands in
    let later : HoldsShare c.clear.new.self = λ account stands. c.tell_share-2.ensures account stands in
    let slot : Slot = c.index_mut-home.result.now in
    let made = c.clear.ensures.made in
    let seen : has_present (cell_at sides.leaves c.args.cell).parent c.args.first c.args.count ≡ true =
    sym (present-here old c.args.cell c.args.slot c.args.first c.args.count slot c.requires.known here c.requires.range sides st)
    ∙ known-test c.requires.stands (λ it. present-here old c.args.cell c.args.slot c.args.first c.args.count slot c.requires.known here c.requires.range it.0 it.1.0 ∙ it.1.1) in
    stays old c.args.cell c.args.slot c.args.first c.args.count slot c.requires.known here c.requires.range c.clear.new.self made.deals made.follows before later sides st seen
    (sym c.has_pages.ensures.pages ∙ c.if-not-has_pages.false)

pub returns-else-not-has_pages-clause-event : goal.returns-else-not-has_pages-clause-event
returns-else-not-has_pages-clause-event g c = λ sides st.
    let old : PageTables = c.args.self.now in
    let within : c.args.slot < length old.slots.items = slot-within c.args.self.now c.args.cell c.args.first c.args.count c.requires.stands c.args.slot c.requires.known in
    let here : slice_get old.slots.items c.args.slot ≡ Some c.index_mut-home.result.now = read-slot old.slots.items c.args.slot c.index_mut-home.result.now within c.index_mut-home.ensures.value in
    let before : HoldsShare c.index_mut-home.result.now.cell = λ account stands. c.tell_share.ensures account stands in
    let later : HoldsShare c.clear.new.self = λ account stands. c.tell_share-2.ensures account stands in
    let slot : Slot = c.index_mut-home.result.now in
    let made = c.clear.ensures.made in
    let seen : has_present (cell_at sides.leaves c.args.cell).parent c.args.first c.args.count ≡ true =
    sym (present-here old c.args.cell c.args.slot c.args.first c.args.count slot c.requires.known here c.requires.range sides st)
    ∙ known-test c.requires.stands (λ it. present-here old c.args.cell c.args.slot c.args.first c.args.count slot c.requires.known here c.requires.range it.0 it.1.0 ∙ it.1.1) in
    event-made old c.args.cell c.args.slot c.args.first c.args.count slot c.requires.known here c.requires.range c.clear.new.self made.deals made.follows before later sides st seen
    old.directory (record { owner = slot.owner; cell = c.clear.new.self }) refl (omega arith)
    (stays old c.args.cell c.args.slot c.args.first c.args.count slot c.requires.known here c.requires.range c.clear.new.self made.deals made.follows before later sides st seen
    (sym c.has_pages.ensures.pages ∙ c.if-not-has_pages.false))

pub returns-else-not-has_pages-clause-held : goal.returns-else-not-has_pages-clause-held
returns-else-not-has_pages-clause-held g c =
    let old : PageTables = c.args.self.now in
    let within : c.args.slot < length old.slots.items = slot-within c.args.self.now c.args.cell c.args.first c.args.count c.requires.stands c.args.slot c.requires.known in
    let here : slice_get old.slots.items c.args.slot ≡ Some c.index_mut-home.result.now = read-slot old.slots.items c.args.slot c.index_mut-home.result.now within c.index_mut-home.ensures.value in
    let slot : Slot = c.index_mut-home.result.now in
    let new : Slot = record { owner = slot.owner; cell = c.clear.new.self } in
    let sums : frames_in (slice_set old.slots.items c.args.slot new) + held_of slot.cell ≡ frames_in old.slots.items + held_of c.clear.new.self = frames-set old.slots.items c.args.slot slot new here in
    let held : g.A.Allot.out (g.A.Allot.state c.clear.new.allot) + held_of slot.cell ≡ g.A.Allot.out (g.A.Allot.state c.args.allot.now) + held_of c.clear.new.self = c.clear.ensures.held in
    omega (arith, sums, held)

pub invariant_of-self-clause-even : goal.invariant_of-self-clause-even
invariant_of-self-clause-even g c =
    let old : PageTables = c.args.self.now in
    let within : c.args.slot < length old.slots.items = slot-within c.args.self.now c.args.cell c.args.first c.args.count c.requires.stands c.args.slot c.requires.known in
    let here : slice_get old.slots.items c.args.slot ≡ Some c.index_mut-home.result.now = read-slot old.slots.items c.args.slot c.index_mut-home.result.now within c.index_mut-home.ensures.value in
    let before : HoldsShare c.index_mut-home.result.now.cell = λ account stands. c.tell_share.ensures account stands in
    let later : HoldsShare c.clear.new.self = λ account stands. c.tell_share-2.ensures account stands in
    let made = c.clear.ensures.made in
    still-even _ _ _ _ (known-number c.requires.stands (λ it. even-here old c.args.cell c.args.slot c.args.first c.args.count
    c.index_mut-home.result.now c.requires.known here c.requires.range c.clear.new.self made.deals made.follows before later it.0 it.1.0
    it.1.1
    c.leave_slot.new.home (ap (λ it. it.cell) c.leave_slot.ensures))) c.args.self.now.even

pub invariant_of-self-else-not-has_pages-clause-even : goal.invariant_of-self-else-not-has_pages-clause-even
invariant_of-self-else-not-has_pages-clause-even g c =
    let old : PageTables = c.args.self.now in
    let within : c.args.slot < length old.slots.items = slot-within c.args.self.now c.args.cell c.args.first c.args.count c.requires.stands c.args.slot c.requires.known in
    let here : slice_get old.slots.items c.args.slot ≡ Some c.index_mut-home.result.now = read-slot old.slots.items c.args.slot c.index_mut-home.result.now within c.index_mut-home.ensures.value in
    let before : HoldsShare c.index_mut-home.result.now.cell = λ account stands. c.tell_share.ensures account stands in
    let later : HoldsShare c.clear.new.self = λ account stands. c.tell_share-2.ensures account stands in
    let made = c.clear.ensures.made in
    still-even _ _ _ _ (known-number c.requires.stands (λ it. even-here old c.args.cell c.args.slot c.args.first c.args.count
    c.index_mut-home.result.now c.requires.known here c.requires.range c.clear.new.self made.deals made.follows before later it.0 it.1.0
    it.1.1
    (record { owner = c.index_mut-home.result.now.owner; cell = c.clear.new.self }) refl)) c.args.self.now.even

pub prove-unreachable-requires : goal.prove-unreachable-requires
prove-unreachable-requires g c =
    let none : has_pages c.clear.new.self.leaves.parent ≡ false = sym c.has_pages.ensures.pages ∙ c.if-not-has_pages.true in
    false≢true (sym none ∙ present-pages c.clear.new.self.leaves.parent 0 512 (sym c.covers.ensures.covers ∙ c.if-prove.true))

pub returns-then-not-has_pages-clause-writable : goal.returns-then-not-has_pages-clause-writable
returns-then-not-has_pages-clause-writable g c = λ page.
    let old : PageTables = c.args.self.now in
    let within : c.args.slot < length old.slots.items = slot-within old c.args.cell c.args.first c.args.count c.requires.stands c.args.slot c.requires.known in
    let home : Slot = c.index_mut-home.result.now in
    let here : slice_get old.slots.items c.args.slot ≡ Some home = read-slot old.slots.items c.args.slot home within c.index_mut-home.ensures.value in
    let none : has_pages c.clear.new.self.leaves.parent ≡ false = sym c.has_pages.ensures.pages ∙ c.if-not-has_pages.true in
    let cell : c.leave_slot.new.home.cell ≡ c.clear.new.self = ap (λ it. it.cell) c.leave_slot.ensures in
    let unwritten : (p : ℕ) → writable_at c.clear.new.self.writable p ≡ false = none-left c.clear.new.self c.covers.ensures.unshared none in
    stops-gone old (record old {
      directory = c.remove.new.self;
      slots = with_item old.slots c.args.slot c.leave_slot.new.home;
      even = c.self-then-not-has_pages-2-1.given.1.0;
    }) c.args.cell c.args.slot c.args.first c.args.count home c.leave_slot.new.home c.requires.known here
    (known-owner old (standing-here old c.args.cell c.args.first c.args.count c.requires.stands)) c.requires.range
    (ap (λ it. it.writable) cell ∙ c.clear.ensures.writable) refl
    (λ q apart. ap (λ d. get d q) c.remove.ensures.removed ∙ get_removed old.directory c.args.cell q ∙ cond-false (eqb q c.args.cell) None (get old.directory q) (ne_eqb q c.args.cell apart))
    (ap (λ d. get d c.args.cell) c.remove.ensures.removed ∙ get_removed old.directory c.args.cell c.args.cell ∙ cond-true (eqb c.args.cell c.args.cell) None (get old.directory c.args.cell) (eq-eqb c.args.cell c.args.cell refl))
    (λ p. ap (λ it. writable_at it.writable p) cell ∙ unwritten p) page

pub returns-else-not-has_pages-clause-writable : goal.returns-else-not-has_pages-clause-writable
returns-else-not-has_pages-clause-writable g c = λ page.
    let old : PageTables = c.args.self.now in
    let within : c.args.slot < length old.slots.items = slot-within old c.args.cell c.args.first c.args.count c.requires.stands c.args.slot c.requires.known in
    let home : Slot = c.index_mut-home.result.now in
    let here : slice_get old.slots.items c.args.slot ≡ Some home = read-slot old.slots.items c.args.slot home within c.index_mut-home.ensures.value in
    stops-here old (record old {
      slots = with_item old.slots c.args.slot (record { owner = home.owner; cell = c.clear.new.self });
      even = c.self-else-not-has_pages-2-1.given.1.0;
    }) c.args.cell c.args.slot c.args.first c.args.count home (record { owner = home.owner; cell = c.clear.new.self }) c.requires.known here
    (known-owner old (standing-here old c.args.cell c.args.first c.args.count c.requires.stands)) c.requires.range c.clear.ensures.writable refl
    (λ q apart. refl) c.requires.known page
