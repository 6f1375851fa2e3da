use Rattle.std.proofs.Common.{◌≡◌, ◌+◌, ◌%◌, ◌≤◌, ◌<◌, ℕ, length, Some, sym, ◌∙◌, ap, subst, refl, arith}
use Rattle.std.specs.Prelude.{slice_set, true, OnOk}
use Rattle.std.specs.Vec.{with_item}
use Rattle.std.specs.List.{slice_get}
use Rattle.std.specs.Option.{option_and_then}
use Rattle.vm_base.specs.Places.{cell_of}
use Rattle.leaf_cell.specs.CellView.{held_of}
use Rattle.leaf_cell.specs.Writable.{writable_at}
use Rattle.leaf_cell.specs.States.{refused_count}
use Rattle.leaf_cell.specs.Touching.{IsTouched}
use Rattle.page_tables.specs.declared.slot.Slot.{Slot}
use Rattle.page_tables.specs.Sides.{Sides}
use Rattle.leaf_cell.specs.Standing.{StandsFor, TakesAccount}
use Rattle.kernel_meaning.specs.CellAccount.{CellAccount, Touch}
use Rattle.page_tables.specs.Standing.{owner_at, TablesStandFor}
use Rattle.page_tables.proofs.ParentPages.{account_at, slot-stands}
use Rattle.page_tables.proofs.ClearedSlot.{even-slots, holds-own, still-even}
use Rattle.page_tables.specs.Held.{frames_in, snapshot_frames}
use Rattle.table_levels.specs.Cells.{tables_of}
use Rattle.page_tables.proofs.KnownTouch.{known-touches}
use Rattle.page_tables.proofs.OwnedSlots.{owned-within, held-within, frames-set, read-slot}
use Rattle.page_tables.specs.declared.tables.PageTables.{PageTables}
use Rattle.page_tables.proofs.SlotLemmas.{length-set, slice_get-set-here, slice_get-set-apart}
use Rattle.page_tables.proofs.WrittenPages.{bit-known, page-answered, page-written, other-slot, others-set}
use Rattle.page_tables.proofs.KeptWriting.{keeps-writing, bits-set}
use Rattle.page_tables.proofs.Known.{known-owner, known-unjoined, known-number}
use Rattle.page_tables.proofs.tables.PageTables.touch_known.Goals as goal

-- src/touch.rt:56:9
pub index_mut-home-requires : goal.index_mut-home-requires
index_mut-home-requires g c =
    let within : c.args.slot < length c.args.self.now.slots.items = owned-within c.args.self.now.slots.items c.args.slot (cell_of c.args.page) (known-owner c.args.self.now c.requires.stands (cell_of c.args.page) c.args.slot c.requires.known) in
    subst (λ n. c.args.slot < n) (sym c.args.self.now.slots.ok.0) within

-- src/touch.rt:56:9
pub touch-answer-requires-clause-unjoined : goal.touch-answer-requires-clause-unjoined
touch-answer-requires-clause-unjoined g c =
    let within : c.args.slot < length c.args.self.now.slots.items = owned-within c.args.self.now.slots.items c.args.slot (cell_of c.args.page) (known-owner c.args.self.now c.requires.stands (cell_of c.args.page) c.args.slot c.requires.known) in
    known-unjoined c.args.self.now c.requires.stands c.args.slot c.index_mut-home.result.now
    (read-slot c.args.self.now.slots.items c.args.slot c.index_mut-home.result.now within c.index_mut-home.ensures.value)

-- src/touch.rt:56:9
pub touch-answer-requires-clause-held : goal.touch-answer-requires-clause-held
touch-answer-requires-clause-held g c =
    let within : c.args.slot < length c.args.self.now.slots.items = owned-within c.args.self.now.slots.items c.args.slot (cell_of c.args.page) (known-owner c.args.self.now c.requires.stands (cell_of c.args.page) c.args.slot c.requires.known) in
    let part : held_of c.index_mut-home.result.now.cell ≤ frames_in c.args.self.now.slots.items = held-within c.args.self.now.slots.items c.args.slot c.index_mut-home.result.now (read-slot c.args.self.now.slots.items c.args.slot c.index_mut-home.result.now within c.index_mut-home.ensures.value) in
    let lent : tables_of c.args.self.now.directory + snapshot_frames c.args.self.now.snapshot + frames_in c.args.self.now.slots.items ≤ g.A.Allot.out (g.A.Allot.state c.args.allot.now) = c.requires.lent.lent in
    omega (arith, part, lent)

pub touch-answer-requires-clause-untold : goal.touch-answer-requires-clause-untold
touch-answer-requires-clause-untold g c = c.requires.lent.untold

-- src/touch.rt:44:5
pub returns-clause-made : goal.returns-clause-made
returns-clause-made g c =
    let s = c.args.slot in
    let within : c.args.slot < length c.args.self.now.slots.items = owned-within c.args.self.now.slots.items c.args.slot (cell_of c.args.page) (known-owner c.args.self.now c.requires.stands (cell_of c.args.page) c.args.slot c.requires.known) in
    let here : slice_get c.args.self.now.slots.items c.args.slot ≡ Some c.index_mut-home.result.now = read-slot c.args.self.now.slots.items c.args.slot c.index_mut-home.result.now within c.index_mut-home.ensures.value in
    let mine : c.index_mut-home.result.now.owner ≡ Some (cell_of c.args.page) = sym (ap (option_and_then (λ it. it.owner)) here) ∙ known-owner c.args.self.now c.requires.stands (cell_of c.args.page) c.args.slot c.requires.known in
    record {
      deals = c.touch-answer.ensures.made.deals;
      led = c.touch-answer.ensures.made.led;
      follows = λ sides st. known-touches c.args.self.now sides st c.args.page c.args.slot c.index_mut-home.result.now c.requires.known here c.touch-answer.new.self c.touch-answer.ensures.made.deals c.touch-answer.result
          (λ account stood. subst (λ i. TakesAccount (Touch i) c.index_mut-home.result.now.cell c.touch-answer.new.self c.touch-answer.ensures.made.deals (refused_count c.touch-answer.result) account)
          c.cell_and_index-index.ensures.index (c.touch-answer.ensures.made.follows account stood)) (g.A.Allot.refused (g.A.Allot.state c.args.allot.now)) (g.A.Allot.refused (g.A.Allot.state c.touch-answer.new.allot))
          (subst (λ i. OnOk c.touch-answer.result (IsTouched i (g.A.Allot.refused (g.A.Allot.state c.args.allot.now)) (g.A.Allot.refused (g.A.Allot.state c.touch-answer.new.allot)) c.index_mut-home.result.now.cell c.touch-answer.new.self))
          c.cell_and_index-index.ensures.index c.touch-answer.ensures.touched)
          _
          refl refl (ap (λ owner. slice_set c.args.self.now.slots.items c.args.slot (record { owner = owner; cell = c.touch-answer.new.self })) mine);
    }

-- src/touch.rt:44:5
pub returns-clause-lent : goal.returns-clause-lent
returns-clause-lent g c =
    let within : c.args.slot < length c.args.self.now.slots.items = owned-within c.args.self.now.slots.items c.args.slot (cell_of c.args.page) (known-owner c.args.self.now c.requires.stands (cell_of c.args.page) c.args.slot c.requires.known) in
    let here : slice_get c.args.self.now.slots.items c.args.slot ≡ Some c.index_mut-home.result.now = read-slot c.args.self.now.slots.items c.args.slot c.index_mut-home.result.now within c.index_mut-home.ensures.value in
    let new : Slot = record { owner = c.index_mut-home.result.now.owner; cell = c.touch-answer.new.self } in
    let sums : frames_in (slice_set c.args.self.now.slots.items c.args.slot new) + held_of c.index_mut-home.result.now.cell ≡ frames_in c.args.self.now.slots.items + held_of c.touch-answer.new.self = frames-set c.args.self.now.slots.items c.args.slot c.index_mut-home.result.now new here in
    let held : g.A.Allot.out (g.A.Allot.state c.touch-answer.new.allot) + held_of c.index_mut-home.result.now.cell ≡ g.A.Allot.out (g.A.Allot.state c.args.allot.now) + held_of c.touch-answer.new.self = c.touch-answer.ensures.held in
    record {
      held = omega (arith, sums, held);
      untold = c.touch-answer.ensures.untold;
      slots = length-set c.args.self.now.slots.items c.args.slot new;
      snapshot = refl;
    }

-- src/touch.rt:47:5
pub invariant_of-self-clause-even : goal.invariant_of-self-clause-even
invariant_of-self-clause-even g c =
    still-even _ _ _ _ (known-number c.requires.stands (λ it.
    let old = c.args.self.now in
    let sides : Sides = it.0 in
    let st : TablesStandFor old sides = it.1 in
    let cell : ℕ = cell_of c.args.page in
    let slot : Slot = c.index_mut-home.result.now in
    let owned : owner_at old.slots.items c.args.slot ≡ Some cell = st.named cell c.args.slot c.requires.known in
    let here : slice_get old.slots.items c.args.slot ≡ Some slot = read-slot old.slots.items c.args.slot slot (owned-within old.slots.items c.args.slot cell owned) c.index_mut-home.ensures.value in
    let account : CellAccount = account_at old.directory old.snapshot old.slots.items sides st cell in
    let stood : StandsFor slot.cell account = slot-stands old.directory old.snapshot old.slots.items sides st cell c.args.slot slot here owned in
    let takes = c.touch-answer.ensures.made.follows account stood in
    even-slots old.slots.items c.args.slot slot (record { owner = slot.owner; cell = c.touch-answer.new.self }) here
    (holds-own slot.cell account stood (λ account stands. c.tell_share.ensures account stands))
    (holds-own c.touch-answer.new.self _ takes.stands (λ account stands. c.tell_share-2.ensures account stands)))) c.args.self.now.even

pub returns-clause-writable : goal.returns-clause-writable
returns-clause-writable g c =
    let old : PageTables = c.args.self.now in
    let cell : ℕ = cell_of c.args.page in
    let home : Slot = c.index_mut-home.result.now in
    let it : Slot = record { owner = home.owner; cell = c.touch-answer.new.self } in
    let owned : owner_at old.slots.items c.args.slot ≡ Some cell = known-owner old c.requires.stands cell c.args.slot c.requires.known in
    let within : c.args.slot < length old.slots.items = owned-within old.slots.items c.args.slot cell owned in
    let here : slice_get old.slots.items c.args.slot ≡ Some home = read-slot old.slots.items c.args.slot home within c.index_mut-home.ensures.value in
    let at = c.cell_and_index-index.ensures.index in
    page-answered c.args.page c.touch-answer.result old _ c.touch-answer.ensures.writable c.touch-answer.ensures.allowed c.touch-answer.ensures.refused (λ set allowed.
    page-written c.args.page c.args.slot old _ it c.requires.known (slice_get-set-here old.slots.items c.args.slot it within) (λ q apart. refl)
    (λ t apart. slice_get-set-apart old.slots.items c.args.slot t it apart)
    (λ q t apart is. other-slot old.slots.items c.args.slot t cell q owned (known-owner old c.requires.stands q t is) apart) (subst (λ i. writable_at c.touch-answer.new.self.writable i ≡ true) at allowed)
    (λ q same apart. others-set home.cell.writable c.touch-answer.new.self.writable (c.args.page % 512) (q % 512)
    (subst (λ i. c.touch-answer.new.self.writable ≡ slice_set home.cell.writable i true) at set) apart ∙ sym (bit-known old cell c.args.slot home c.requires.known here q same)))
    (λ same. keeps-writing old (record old {
      slots = with_item old.slots c.args.slot it;
      even = c.self-2-1.given.1.0;
    }) refl (known-owner old c.requires.stands) (bits-set old.slots.items c.args.slot home it here (ap (λ cell. cell.writable) same)))
