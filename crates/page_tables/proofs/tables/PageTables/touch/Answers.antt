use Rattle.std.proofs.Common.{◌≡◌, ◌+◌, ◌-◌, ◌≤◌, ◌<◌, ◌^◌, ℕ, length, List, [], ◌∷◌, ◌++◌, Some, sym, ◌∙◌, subst, refl, arith}
use Rattle.std.specs.Prelude.{cond, vec_capacity, true, false, slice_index_or}
use Rattle.vm_base.specs.Places.{cell_of}
use Rattle.vm_base.specs.Deals.{Deal}
use Rattle.vm_base.proofs.DealLemmas.{LeadsAlong-append}
use Rattle.kernel_meaning.specs.FrameLaw.{lacks_slots}
use Rattle.table_levels.specs.Requests.{returned}
use Rattle.page_tables.specs.declared.tables.PageTables.{PageTables}
use Rattle.page_tables.specs.Sides.{Sides}
use Rattle.page_tables.specs.Standing.{TablesStandFor, slot_count}
use Rattle.page_tables.specs.Held.{frames_of}
use Rattle.page_tables.specs.Ranges.{IsTouchedUpTo, cells_of_pages, sides_without_pages, AreThere}
use Rattle.page_tables.specs.Permissions.{LetsWrite, StopsWritingAt}
use Rattle.page_tables.proofs.KeptWriting.{there-known, refused-writes}
use Rattle.page_tables.proofs.WrittenPages.{none-written, one-more-written}
use Rattle.page_tables.proofs.RangeRoom.{is_among, page-among, room-for}
use Rattle.page_tables.proofs.RangeSteps.{none-touched, one-page-more, range-granted}
use Rattle.page_tables.proofs.RangeEnds.{added-there, added-below, range-refused, few-absent}
use Rattle.std.proofs.Math.Logic.{∥∥₁_map}
use Rattle.page_tables.proofs.Known.{known-below, known-less, known-test}
use Rattle.page_tables.proofs.tables.PageTables.touch.Goals as goal

-- src/range.rt:50:9
pub loop-page-init : goal.loop-page-init
loop-page-init g c =
    let start : ℕ = c.args.first - c.args.first in
    let none : 0 ≡ start = omega arith in
    record {
      touched = record {
        deals = [];
        led = refl;
        touched = λ sides st. subst (λ added. IsTouchedUpTo c.args.first c.args.count start added c.args.self.now [] sides (slot_count c.args.self.now)) (sym c.clear.ensures.items)
            (subst (λ i. IsTouchedUpTo c.args.first c.args.count i [] c.args.self.now [] sides (slot_count c.args.self.now)) none
            (none-touched c.args.first c.args.count c.args.self.now sides (slot_count c.args.self.now) st));
      };
      from = omega arith;
      held = refl;
      untold = c.requires.untold;
      snapshot = refl;
      slots = refl;
      writable = none-written c.args.first c.args.self.now;
      capacity = c.clear.ensures.capacity;
    }

-- src/range.rt:51:17
pub has_page-was_present-requires-clause-stands : goal.has_page-was_present-requires-clause-stands
has_page-was_present-requires-clause-stands g c =
    ∥∥₁_map c.requires.stands (λ it.
    let so_far = c.loop-page.invariant.touched.touched it.0 it.1.0 in
    (_, so_far.stands))

-- src/range.rt:52:19
pub touch_page-requires-clause-stands : goal.touch_page-requires-clause-stands
touch_page-requires-clause-stands g c =
    ∥∥₁_map c.requires.stands (λ it.
    let sides : Sides = it.0 in
    let so_far = c.loop-page.invariant.touched.touched sides it.1.0 in
    let cells : List ℕ = cells_of_pages c.args.first c.args.count in
    let among : is_among (cell_of c.loop-page.page) cells ≡ true = page-among c.args.first c.args.count c.loop-page.page c.loop-page.invariant.from c.loop-page-test.true in (
      _,
      (
        so_far.stands,
        subst (λ n. lacks_slots n so_far.leaves (cell_of c.loop-page.page ∷ []) ≡ false) (sym c.loop-page.invariant.slots)
            (room-for (slot_count c.args.self.now) so_far.leaves cells (cell_of c.loop-page.page) (so_far.room it.1.1) among),
      ),
    ))

pub touch_page-requires-clause-lent : goal.touch_page-requires-clause-lent
touch_page-requires-clause-lent g c = record {
  lent = omega (arith, c.requires.lent, c.loop-page.invariant.held);
  untold = c.loop-page.invariant.untold;
}

-- src/range.rt:53:27
pub note_added-requires : goal.note_added-requires
note_added-requires g c =
    let few : length c.loop-page.added.items ≤ c.loop-page.page - c.args.first = known-below c.requires.stands (λ it.
    few-absent it.0.pages c.args.first (c.loop-page.page - c.args.first) c.loop-page.added.items (c.loop-page.invariant.touched.touched it.0 it.1.0).new) in
    let room : c.args.count ≤ vec_capacity c.args.added.now = c.requires.noted in
    let kept : vec_capacity c.loop-page.added ≡ vec_capacity c.args.added.now = c.loop-page.invariant.capacity in
    omega (arith, few, room, kept, c.loop-page.invariant.from, c.loop-page-test.true)

-- src/range.rt:55:21
pub take_back-requires-clause-stands : goal.take_back-requires-clause-stands
take_back-requires-clause-stands g c =
    ∥∥₁_map c.requires.stands (λ it.
    let sides : Sides = it.0 in
    let so_far = c.loop-page.invariant.touched.touched sides it.1.0 in
    let touch = c.in-Err.ensures.made.follows _ so_far.stands in (
      _,
      (
        touch.follows.stands,
        subst (AreThere touch.follows.leaves) (sym c.deref.ensures.value)
            (added-there sides.pages c.args.first (c.loop-page.page - c.args.first) c.loop-page.added.items so_far.new touch.follows.leaves (λ q low high. touch.still q (so_far.ready q low high))),
      ),
    ))

-- src/range.rt:55:21
pub take_back-requires-clause-below : goal.take_back-requires-clause-below
take_back-requires-clause-below g c =
    subst (λ added. (k d : ℕ) → k < length added → slice_index_or added k d < 2 ^ 36) (sym c.deref.ensures.value)
    (λ k d small. known-less c.requires.stands (λ it.
    added-below it.0.pages c.args.first (c.loop-page.page - c.args.first) c.args.count c.loop-page.added.items (c.loop-page.invariant.touched.touched it.0 it.1.0).new (omega (arith, c.loop-page-test.true)) c.requires.range k d small))

pub take_back-requires-clause-lent : goal.take_back-requires-clause-lent
take_back-requires-clause-lent g c = omega (arith, c.requires.lent, c.loop-page.invariant.held, c.touch_page.ensures.lent.held)

pub take_back-requires-clause-untold : goal.take_back-requires-clause-untold
take_back-requires-clause-untold g c = c.touch_page.ensures.lent.untold

pub returns-in-Err-clause-held : goal.returns-in-Err-clause-held
returns-in-Err-clause-held g c = omega (arith, c.loop-page.invariant.held, c.touch_page.ensures.lent.held, c.take_back.ensures.held)

pub returns-in-Err-clause-slots : goal.returns-in-Err-clause-slots
returns-in-Err-clause-slots g c = c.take_back.ensures.slots ∙ c.touch_page.ensures.lent.slots ∙ c.loop-page.invariant.slots

pub returns-in-Err-clause-snapshot : goal.returns-in-Err-clause-snapshot
returns-in-Err-clause-snapshot g c = c.take_back.ensures.snapshot ∙ c.touch_page.ensures.lent.snapshot ∙ c.loop-page.invariant.snapshot

-- src/range.rt:56:21
pub returns-in-Err-clause-made : goal.returns-in-Err-clause-made
returns-in-Err-clause-made g c =
    let so_far = c.loop-page.invariant.touched in
    let made = c.in-Err.ensures.made in
    let mid : PageTables = c.touch_page.new.self in
    let final : PageTables = c.take_back.new.self in
    let i : ℕ = c.loop-page.page - c.args.first in
    let small : i < c.args.count = omega (arith, c.loop-page.invariant.from, c.loop-page-test.true) in
    let here : c.loop-page.page ≡ c.args.first + i = omega (arith, c.loop-page.invariant.from) in
    record {
      deals = so_far.deals ++ (made.deals ++ returned (frames_of mid - frames_of final));
      led = LeadsAlong-append g.A.Allot.goes so_far.deals (made.deals ++ returned (frames_of mid - frames_of final)) (g.A.Allot.state c.args.allot.now)
          (g.A.Allot.state c.loop-page.allot) (g.A.Allot.state c.take_back.new.allot) so_far.led
          (LeadsAlong-append g.A.Allot.goes made.deals (returned (frames_of mid - frames_of final)) (g.A.Allot.state c.loop-page.allot)
          (g.A.Allot.state c.touch_page.new.allot) (g.A.Allot.state c.take_back.new.allot) made.led c.take_back.ensures.given);
      follows = λ sides st.
          range-refused c.args.first c.args.count i small c.loop-page.added.items c.loop-page.self mid final so_far.deals made.deals sides
          (slot_count c.args.self.now) (so_far.touched sides st) c.loop-page.page here
          (record { at = c.in-Err.refused.at; page = Some c.loop-page.page }) (made.follows _ (so_far.touched sides st).stands)
          (subst (λ added. (s : Sides) → TablesStandFor mid s
          → TablesStandFor final (sides_without_pages added s)) c.deref.ensures.value c.take_back.ensures.follows)
          c.take_back.ensures.snapshot;
    }

-- src/range.rt:50:9
pub loop-page-preserved : goal.loop-page-preserved
loop-page-preserved g c =
    let so_far = c.loop-page.invariant.touched in
    let made = c.in-Ok.ensures.made in
    let i : ℕ = c.loop-page.page - c.args.first in
    let small : i < c.args.count = omega (arith, c.loop-page.invariant.from, c.loop-page-test.true) in
    let here : c.loop-page.page ≡ c.args.first + i = omega (arith, c.loop-page.invariant.from) in
    let next : i + 1 ≡ c.loop-page.page + 1 - c.args.first = omega (arith, c.loop-page.invariant.from) in
    let slots : ℕ = slot_count c.args.self.now in
    let deals : List Deal = so_far.deals ++ made.deals in
    record {
      touched = record {
        deals = deals;
        led = LeadsAlong-append g.A.Allot.goes so_far.deals made.deals (g.A.Allot.state c.args.allot.now) (g.A.Allot.state c.loop-page.allot)
            (g.A.Allot.state c.touch_page.new.allot) so_far.led made.led;
        touched = λ sides st.
            let up_to = so_far.touched sides st in
            subst (λ added. IsTouchedUpTo c.args.first c.args.count (c.loop-page.page + 1 - c.args.first) added c.touch_page.new.self deals sides slots) (sym c.note_added.ensures.noted)
            (subst (λ k. IsTouchedUpTo c.args.first c.args.count k
            (c.loop-page.added.items ++ cond c.has_page-was_present.result [] (c.loop-page.page ∷ [])) c.touch_page.new.self deals sides slots) next
            (one-page-more c.args.first c.args.count i small c.loop-page.added.items c.loop-page.self c.touch_page.new.self so_far.deals made.deals sides slots up_to c.loop-page.page here
            c.has_page-was_present.result (c.has_page-was_present.ensures.version _ up_to.stands) (c.has_page-was_present.ensures.page _ up_to.stands) (made.follows _ up_to.stands)));
      };
      from = omega (arith, c.loop-page.invariant.from);
      held = (let before : g.A.Allot.out (g.A.Allot.state c.loop-page.allot) + frames_of c.args.self.now ≡ g.A.Allot.out (g.A.Allot.state c.args.allot.now) + frames_of c.loop-page.self =
          c.loop-page.invariant.held in
          let more : g.A.Allot.out (g.A.Allot.state c.touch_page.new.allot) + frames_of c.loop-page.self ≡ g.A.Allot.out (g.A.Allot.state c.loop-page.allot) + frames_of c.touch_page.new.self =
          c.touch_page.ensures.lent.held in omega (arith, before, more));
      untold = c.touch_page.ensures.lent.untold;
      snapshot = c.touch_page.ensures.lent.snapshot ∙ c.loop-page.invariant.snapshot;
      slots = c.touch_page.ensures.lent.slots ∙ c.loop-page.invariant.slots;
      writable = one-more-written c.args.first c.loop-page.page c.args.self.now c.loop-page.self c.touch_page.new.self c.loop-page.invariant.from c.loop-page.invariant.writable c.in-Ok.ensures.writable;
      capacity = c.note_added.ensures.room ∙ c.loop-page.invariant.capacity;
    }

-- src/range.rt:30:5
pub returns-clause-made : goal.returns-clause-made
returns-clause-made g c =
    let so_far = c.loop-page.invariant.touched in
    let whole : c.loop-page.page - c.args.first ≡ c.args.count = omega (arith, c.loop-page.invariant.from, c.loop-page-test.false, c.loop-page.auto.page-end) in
    record {
      deals = so_far.deals;
      led = so_far.led;
      follows = λ sides st. range-granted c.args.first c.args.count c.loop-page.added.items c.loop-page.self so_far.deals sides (slot_count c.args.self.now)
          (subst (λ i. IsTouchedUpTo c.args.first c.args.count i c.loop-page.added.items c.loop-page.self so_far.deals sides (slot_count c.args.self.now)) whole (so_far.touched sides st));
    }

pub returns-clause-writable : goal.returns-clause-writable
returns-clause-writable g c =
    let whole : c.loop-page.page - c.args.first ≡ c.args.count = omega (arith, c.loop-page.invariant.from, c.loop-page-test.false, c.loop-page.auto.page-end) in
    subst (λ n. LetsWrite c.args.first n c.args.self.now c.loop-page.self) whole c.loop-page.invariant.writable

pub returns-in-Err-clause-writable : goal.returns-in-Err-clause-writable
returns-in-Err-clause-writable g c = λ page.
    known-test c.requires.stands (λ it.
    let sides : Sides = it.0 in
    let so_far = c.loop-page.invariant.touched.touched sides it.1.0 in
    refused-writes c.args.first c.loop-page.page c.args.self.now c.loop-page.self c.touch_page.new.self c.take_back.new.self c.loop-page.added.items
    c.loop-page.invariant.writable c.in-Err.ensures.writable
    (subst (λ added. StopsWritingAt added c.touch_page.new.self c.take_back.new.self) c.deref.ensures.value c.take_back.ensures.writable)
    sides.pages so_far.new (there-known c.args.self.now sides it.1.0) page)
