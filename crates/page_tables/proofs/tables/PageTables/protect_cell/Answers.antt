use Rattle.std.proofs.Common.{◌≡◌, ◌+◌, ◌-◌, ◌*◌, ◌<◌, length, refl, sym, ◌∙◌, ap, subst, arith}
use Rattle.std.specs.Prelude.{min, slice_set}
use Rattle.kernel_meaning.specs.Leaves.{share}
use Rattle.leaf_cell.specs.CellView.{held_of}
use Rattle.page_tables.specs.declared.slot.Slot.{Slot}
use Rattle.page_tables.specs.Held.{frames_in, shares_in}
use Rattle.page_tables.proofs.ClearedSlot.{shares-set}
use Rattle.page_tables.proofs.OwnedSlots.{owned-within, read-slot, frames-set}
use Rattle.page_tables.proofs.Known.{known-owner, known-unjoined}
use Rattle.std.specs.Vec.{with_item}
use Rattle.leaf_cell.specs.Permissions.{allowed}
use Rattle.page_tables.proofs.ParentPages.{owned-here}
use Rattle.page_tables.proofs.Permissions.{all-but-permissions, pages-allowed, others-still}
use Rattle.page_tables.proofs.tables.PageTables.protect_cell.Goals as goal

pub index_mut-requires : goal.index_mut-requires
index_mut-requires g c =
    let within : c.args.slot < length c.args.self.now.slots.items = owned-within c.args.self.now.slots.items c.args.slot c.args.cell (known-owner c.args.self.now c.requires.stands c.args.cell c.args.slot c.requires.known) in
    subst (λ n. c.args.slot < n) (sym c.args.self.now.slots.ok.0) within

pub protect-requires-clause-unjoined : goal.protect-requires-clause-unjoined
protect-requires-clause-unjoined g c = λ _.
    let within : c.args.slot < length c.args.self.now.slots.items = owned-within c.args.self.now.slots.items c.args.slot c.args.cell (known-owner c.args.self.now c.requires.stands c.args.cell c.args.slot c.requires.known) in
    known-unjoined c.args.self.now c.requires.stands c.args.slot c.index_mut.result.now
    (read-slot c.args.self.now.slots.items c.args.slot c.index_mut.result.now within c.index_mut.ensures.value)

pub invariant_of-self-clause-even : goal.invariant_of-self-clause-even
invariant_of-self-clause-even g c =
    let here = owned-here c.args.self.now.slots.items c.args.slot c.args.cell c.index_mut.result.now
    (known-owner c.args.self.now c.requires.stands c.args.cell c.args.slot c.requires.known) c.index_mut.ensures.value in
    let new : Slot = record { owner = c.index_mut.result.now.owner; cell = c.protect.new.self } in
    let frames : frames_in (slice_set c.args.self.now.slots.items c.args.slot new) + held_of c.index_mut.result.now.cell ≡ frames_in
    c.args.self.now.slots.items + held_of c.protect.new.self =
    frames-set c.args.self.now.slots.items c.args.slot c.index_mut.result.now new here in
    let shares : shares_in (slice_set c.args.self.now.slots.items c.args.slot new) + share c.index_mut.result.now.cell.leaves ≡ shares_in
    c.args.self.now.slots.items + share c.protect.new.self.leaves =
    shares-set c.args.self.now.slots.items c.args.slot c.index_mut.result.now new here in
    let same : held_of c.protect.new.self ≡ held_of c.index_mut.result.now.cell = ap held_of c.protect.ensures.cell in
    let alike : share c.protect.new.self.leaves ≡ share c.index_mut.result.now.cell.leaves = ap (λ cell. share cell.leaves)
    c.protect.ensures.cell in
    let even = c.args.self.now.even in
    omega (arith, frames, shares, same, alike, even)

pub returns-clause-tables : goal.returns-clause-tables
returns-clause-tables g c =
    all-but-permissions c.args.self.now c.args.cell c.args.slot c.index_mut.result.now c.requires.known
    (owned-here c.args.self.now.slots.items c.args.slot c.args.cell c.index_mut.result.now (known-owner c.args.self.now c.requires.stands c.args.cell c.args.slot c.requires.known) c.index_mut.ensures.value)
    (known-owner c.args.self.now c.requires.stands) _ _ refl refl
    (ap (λ cell. slice_set c.args.self.now.slots.items c.args.slot (record { owner = c.index_mut.result.now.owner; cell = cell })) c.protect.ensures.cell)

pub returns-clause-within : goal.returns-clause-within
returns-clause-within g c =
    let low_is : c.saturating_sub-low.result ≡ c.args.first - c.args.cell * 512 = omega (arith, c.saturating_sub-low.ensures, c.from-start.ensures) in
    let high_is : c.min-high.result ≡ min (c.args.end - c.args.cell * 512) 512 = c.min-high.ensures ∙ ap (λ n. min (c.args.end - n * 512) 512) c.from-start.ensures in
    pages-allowed c.args.self.now c.args.cell c.args.slot c.index_mut.result.now c.requires.known
    (owned-here c.args.self.now.slots.items c.args.slot c.args.cell c.index_mut.result.now (known-owner c.args.self.now c.requires.stands c.args.cell c.args.slot c.requires.known) c.index_mut.ensures.value)
    (known-owner c.args.self.now c.requires.stands) (allowed c.args.perm c.saturating_sub-low.result (c.min-high.result - c.saturating_sub-low.result) c.index_mut.result.now.cell)
    (record c.args.self.now {
      slots = with_item c.args.self.now.slots c.args.slot (record { owner = c.index_mut.result.now.owner; cell = c.protect.new.self });
      even = c.self-2-1.given.1.0;
    }) refl refl
    (ap (λ cell. slice_set c.args.self.now.slots.items c.args.slot (record { owner = c.index_mut.result.now.owner; cell = cell })) c.protect.ensures.cell)
    c.args.perm c.args.first c.args.end c.saturating_sub-low.result c.min-high.result low_is high_is refl

pub returns-clause-others : goal.returns-clause-others
returns-clause-others g c =
    others-still c.args.self.now c.args.cell c.args.slot c.index_mut.result.now c.requires.known
    (owned-here c.args.self.now.slots.items c.args.slot c.args.cell c.index_mut.result.now (known-owner c.args.self.now c.requires.stands c.args.cell c.args.slot c.requires.known) c.index_mut.ensures.value)
    (known-owner c.args.self.now c.requires.stands) (allowed c.args.perm c.saturating_sub-low.result (c.min-high.result - c.saturating_sub-low.result) c.index_mut.result.now.cell)
    (record c.args.self.now {
      slots = with_item c.args.self.now.slots c.args.slot (record { owner = c.index_mut.result.now.owner; cell = c.protect.new.self });
      even = c.self-2-1.given.1.0;
    }) refl refl
    (ap (λ cell. slice_set c.args.self.now.slots.items c.args.slot (record { owner = c.index_mut.result.now.owner; cell = cell })) c.protect.ensures.cell)
