use Rattle.std.proofs.Common.{◌≡◌, ◌+◌, ◌-◌, ◌*◌, ◌<◌, ◌≤◌, ℕ, length, Some, subst, sym, ◌∙◌, ap, arith}
use Rattle.std.specs.Prelude.{true, false, ◌&&◌}
use Rattle.std.specs.List.{slice_get}
use Rattle.kernel_meaning.specs.Leaves.{has_present}
use Rattle.kernel_meaning.specs.FrameLaw.{cell_at}
use Rattle.kernel_meaning.specs.EventRequests.{first_in_cell, count_in_cell}
use Rattle.page_tables.specs.declared.slot.Slot.{Slot}
use Rattle.page_tables.specs.declared.tables.PageTables.{PageTables}
use Rattle.page_tables.specs.Sides.{Sides}
use Rattle.page_tables.specs.Standing.{TablesStandFor}
use Rattle.page_tables.specs.Held.{frames_of}
use Rattle.page_tables.proofs.OwnedSlots.{owned-within, read-slot}
use Rattle.page_tables.proofs.ClearedTables.{account, stood}
use Rattle.page_tables.proofs.OutOfCell.{are-out, none-out}
use Rattle.std.proofs.Math.Logic.{∥∥₁_map}
use Rattle.vm_base.specs.FlatStep.{is_beyond}
use Rattle.page_tables.specs.Permissions.{may_write}
use Rattle.page_tables.proofs.KeptWriting.{stops-none}
use Rattle.page_tables.proofs.Known.{known-owner}
use Rattle.page_tables.proofs.tables.PageTables.unmap_cell.Goals as goal

pub index-requires : goal.index-requires
index-requires g c =
    let within : c.args.slot < length c.args.self.now.slots.items = owned-within c.args.self.now.slots.items c.args.slot c.args.cell (known-owner c.args.self.now c.requires.stands c.args.cell c.args.slot c.requires.known) in
    subst (λ n. c.args.slot < n) (sym c.args.self.now.slots.ok.0) within

pub clear_in_cell-requires-clause-stands : goal.clear_in_cell-requires-clause-stands
clear_in_cell-requires-clause-stands g c =
    let old : PageTables = c.args.self.now in
    let within : c.args.slot < length old.slots.items = owned-within old.slots.items c.args.slot c.args.cell (known-owner c.args.self.now c.requires.stands c.args.cell c.args.slot c.requires.known) in
    let slot : Slot = c.index.result.now in
    let here : slice_get old.slots.items c.args.slot ≡ Some slot = read-slot old.slots.items c.args.slot slot within c.index.ensures in
    ∥∥₁_map c.requires.stands (λ it.
    let sides : Sides = it.0 in
    let st : TablesStandFor old sides = it.1 in (
      sides,
      (
        st,
        ap (λ it. has_present it.parent c.saturating_sub-low.result (c.min-high.result - c.saturating_sub-low.result)) (sym (st.each.leaves c.args.cell))
            ∙ sym (c.covers.ensures.account (account old.directory old.snapshot old.slots.items sides st c.args.cell c.args.slot slot c.requires.known here)
            (stood old.directory old.snapshot old.slots.items sides st c.args.cell c.args.slot slot c.requires.known here))
            ∙ c.if-covers.true,
      ),
    ))

pub returns-then-covers-clause-follows : goal.returns-then-covers-clause-follows
returns-then-covers-clause-follows g c = λ sides st.
    let old : PageTables = c.args.self.now in
    let within : c.args.slot < length old.slots.items = owned-within old.slots.items c.args.slot c.args.cell (known-owner c.args.self.now c.requires.stands c.args.cell c.args.slot c.requires.known) in
    let slot : Slot = c.index.result.now in
    let here : slice_get old.slots.items c.args.slot ≡ Some slot = read-slot old.slots.items c.args.slot slot within c.index.ensures in
    let low : ℕ = c.saturating_sub-low.result in
    let size : ℕ = c.min-high.result - c.saturating_sub-low.result in
    let present : has_present (cell_at sides.leaves c.args.cell).parent low size ≡ true =
    ap (λ it. has_present it.parent low size) (sym (st.each.leaves c.args.cell))
    ∙ sym (c.covers.ensures.account (account old.directory old.snapshot old.slots.items sides st c.args.cell c.args.slot slot c.requires.known here)
    (stood old.directory old.snapshot old.slots.items sides st c.args.cell c.args.slot slot c.requires.known here))
    ∙ c.if-covers.true in
    let from : low ≡ first_in_cell c.args.cell c.args.first = omega (arith, c.saturating_sub-low.ensures, c.from-start.ensures) in
    let count : size ≡ count_in_cell c.args.cell c.args.first (c.args.end - c.args.first) = omega (arith, c.saturating_sub-low.ensures, c.from-start.ensures, c.min-high.ensures, c.requires.range.0) in
    are-out c.args.cell c.args.first (c.args.end - c.args.first) low size c.clear_in_cell.new.self (frames_of old - frames_of c.clear_in_cell.new.self) sides from count present
    (c.clear_in_cell.ensures.follows sides st) (c.clear_in_cell.ensures.event sides st)

pub returns-else-covers-clause-follows : goal.returns-else-covers-clause-follows
returns-else-covers-clause-follows g c = λ sides st.
    let old : PageTables = c.args.self.now in
    let within : c.args.slot < length old.slots.items = owned-within old.slots.items c.args.slot c.args.cell (known-owner c.args.self.now c.requires.stands c.args.cell c.args.slot c.requires.known) in
    let slot : Slot = c.index.result.now in
    let here : slice_get old.slots.items c.args.slot ≡ Some slot = read-slot old.slots.items c.args.slot slot within c.index.ensures in
    let low : ℕ = c.saturating_sub-low.result in
    let size : ℕ = c.min-high.result - c.saturating_sub-low.result in
    let absent : has_present (cell_at sides.leaves c.args.cell).parent low size ≡ false =
    ap (λ it. has_present it.parent low size) (sym (st.each.leaves c.args.cell))
    ∙ sym (c.covers.ensures.account (account old.directory old.snapshot old.slots.items sides st c.args.cell c.args.slot slot c.requires.known here)
    (stood old.directory old.snapshot old.slots.items sides st c.args.cell c.args.slot slot c.requires.known here))
    ∙ c.if-covers.false in
    let from : low ≡ first_in_cell c.args.cell c.args.first = omega (arith, c.saturating_sub-low.ensures, c.from-start.ensures) in
    let count : size ≡ count_in_cell c.args.cell c.args.first (c.args.end - c.args.first) = omega (arith, c.saturating_sub-low.ensures, c.from-start.ensures, c.min-high.ensures, c.requires.range.0) in
    let none : frames_of old - frames_of old ≡ 0 = omega arith in
    none-out c.args.cell c.args.first (c.args.end - c.args.first) low size old (frames_of old - frames_of old) sides from count absent st none

pub returns-then-covers-clause-writable : goal.returns-then-covers-clause-writable
returns-then-covers-clause-writable g c = λ page.
    let old : PageTables = c.args.self.now in
    let new : PageTables = c.clear_in_cell.new.self in
    let from : c.saturating_sub-low.result ≡ first_in_cell c.args.cell c.args.first = omega (arith, c.saturating_sub-low.ensures, c.from-start.ensures) in
    let count : c.min-high.result - c.saturating_sub-low.result ≡ count_in_cell c.args.cell c.args.first (c.args.end - c.args.first) =
    omega (arith, c.saturating_sub-low.ensures, c.from-start.ensures, c.min-high.ensures, c.requires.range.0) in
    c.clear_in_cell.ensures.writable page ∙ (λ i. is_beyond (c.args.cell * 512 + from i) (count i) page && may_write old page)

pub returns-else-covers-clause-writable : goal.returns-else-covers-clause-writable
returns-else-covers-clause-writable g c = λ page.
    let old : PageTables = c.args.self.now in
    let within : c.args.slot < length old.slots.items = owned-within old.slots.items c.args.slot c.args.cell (known-owner c.args.self.now c.requires.stands c.args.cell c.args.slot c.requires.known) in
    let slot : Slot = c.index.result.now in
    let here : slice_get old.slots.items c.args.slot ≡ Some slot = read-slot old.slots.items c.args.slot slot within c.index.ensures in
    let from : c.saturating_sub-low.result ≡ first_in_cell c.args.cell c.args.first = omega (arith, c.saturating_sub-low.ensures, c.from-start.ensures) in
    let count : c.min-high.result - c.saturating_sub-low.result ≡ count_in_cell c.args.cell c.args.first (c.args.end - c.args.first) =
    omega (arith, c.saturating_sub-low.ensures, c.from-start.ensures, c.min-high.ensures, c.requires.range.0) in
    let fits : c.saturating_sub-low.result + (c.min-high.result - c.saturating_sub-low.result) ≤ 512 = omega (arith, c.saturating_sub-low.ensures, c.from-start.ensures, c.min-high.ensures, c.requires.within) in
    stops-none old c.args.cell c.args.slot c.saturating_sub-low.result (c.min-high.result - c.saturating_sub-low.result) slot c.requires.known here fits c.covers.ensures.unshared
    (sym c.covers.ensures.covers ∙ c.if-covers.false) page
    ∙ (λ i. is_beyond (c.args.cell * 512 + from i) (count i) page && may_write old page)
