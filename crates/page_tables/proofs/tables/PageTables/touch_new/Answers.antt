use Rattle.std.proofs.Common.{◌≡◌, ◌+◌, ◌-◌, ◌%◌, ◌≤◌, ◌<◌, ℕ, length, List, [], ◌++◌, Some, None, sym, ◌∙◌, ap, subst, refl, arith}
use Rattle.std.specs.Prelude.{slice_set, true, false}
use Rattle.std.specs.FinMap.{get, insert, remove, keys}
use Rattle.std.specs.Vec.{with_item}
use Rattle.std.specs.List.{slice_get}
use Rattle.vm_base.specs.Places.{cell_of}
use Rattle.vm_base.specs.Deals.{LeadsAlong}
use Rattle.vm_base.specs.declared.frame_request.Want.{Want}
use Rattle.vm_base.proofs.DealLemmas.{LeadsAlong-append}
use Rattle.leaf_cell.specs.CellView.{held_of}
use Rattle.leaf_cell.specs.Writable.{writable_at}
use Rattle.leaf_cell.specs.Standing.{TakesAccount}
use Rattle.leaf_cell.specs.Touching.{IsTouched}
use Rattle.kernel_meaning.specs.CellAccount.{Touch}
use Rattle.table_levels.specs.Cells.{tables_of}
use Rattle.table_levels.specs.Requests.{missing_tables, granted, returned}
use Rattle.table_levels.proofs.Counting.{tables_of-insert}
use Rattle.page_tables.specs.declared.slot.Slot.{Slot}
use Rattle.page_tables.specs.declared.tables.PageTables.{PageTables}
use Rattle.page_tables.specs.Sides.{Sides}
use Rattle.page_tables.specs.Standing.{StandFor, HasSlotFor, IsSlotFor}
use Rattle.page_tables.specs.Held.{frames_in, snapshot_frames, shares_in}
use Rattle.page_tables.specs.Making.{FollowsTouch}
use Rattle.page_tables.proofs.ClearedSlot.{even-slots, holds-own, still-even}
use Rattle.page_tables.proofs.Room.{room-left}
use Rattle.page_tables.proofs.Rows.{deals_behind, deals_up_to}
use Rattle.page_tables.proofs.NewTouch.{granted-touches, refused-touches, lacking-touches, added-removed, account, stood, none-present, none-writable}
use Rattle.page_tables.proofs.OwnedSlots.{held-within, frames-set, read-slot, set-same}
use Rattle.page_tables.proofs.Changing.{slice_get_there}
use Rattle.std.proofs.lemmas.Bool.{false≢true}
use Rattle.vm_base.proofs.NumberedMaps.{get_inserted_here, get_inserted_apart}
use Rattle.page_tables.proofs.SlotLemmas.{length-set, slice_get-set-here, slice_get-set-apart}
use Rattle.page_tables.proofs.Permissions.{never-written}
use Rattle.page_tables.proofs.WrittenPages.{page-written, other-home, others-set}
use Rattle.page_tables.proofs.KeptWriting.{keeps-writing, bits-set}
use Rattle.page_tables.proofs.Known.{standing, known-owner, known-home, known-fits, known-unjoined, known-less, known-number, known-test, known-impossible}
use Rattle.page_tables.proofs.tables.PageTables.touch_new.Goals as goal

-- src/touch.rt:72:15
pub insert-requires-clause-fewer : goal.insert-requires-clause-fewer
insert-requires-clause-fewer g c =
    known-less c.requires.stands (λ it.
    let home = it.1.1 in
    room-left c.args.self.now.directory c.args.self.now.snapshot c.args.self.now.slots.items it.0 it.1.0 (cell_of c.args.page) c.args.slot home.slot home.here home.fits c.requires.new)

-- src/touch.rt:74:29
pub returns-in-Err-clause-made : goal.returns-in-Err-clause-made
returns-in-Err-clause-made g c =
    let refuses = c.in-Err.ensures.requests in
    let old : PageTables = c.args.self.now in
    let there : (slot : Slot) × (slice_get old.slots.items c.args.slot ≡ Some slot) =
    slice_get_there old.slots.items c.args.slot (known-home old (cell_of c.args.page) c.args.slot c.requires.stands) in
    record {
      deals = deals_up_to refuses.front refuses.want c.in-Err.refused.at;
      led = refuses.deals;
      follows = λ sides st.
          let before : FollowsTouch c.args.page old (deals_up_to refuses.front refuses.want c.in-Err.refused.at) (Some (record { at = c.in-Err.refused.at; page = Some c.args.page })) sides =
          lacking-touches old sides st c.args.page c.args.slot there.0 c.requires.new there.1 (known-fits old (cell_of c.args.page) c.args.slot c.requires.stands sides st there.0 there.1)
          refuses.front refuses.want refuses.rest (ap (missing_tables (keys old.directory)) (sym c.cell_and_index-cell.ensures.cell) ∙ refuses.order) c.in-Err.refused.at in
          let then : Sides = record { leaves = before.follows.leaves; pages = sides.pages; snapshots = sides.snapshots; made = before.follows.made } in
          record {
            follows = record {
              leaves = before.follows.leaves;
              made = before.follows.made;
              runs = before.follows.runs;
              stands = subst (λ d. StandFor d old.snapshot old.slots.items then) (sym c.in-Err.ensures.kept) before.follows.stands;
            };
            ready = before.ready;
            still = before.still;
            found = before.found;
            size = before.size;
          };
    }

-- src/touch.rt:77:25
pub index_mut-home-requires : goal.index_mut-home-requires
index_mut-home-requires g c =
    subst (λ n. c.args.slot < n) (sym c.args.self.now.slots.ok.0) (known-home c.args.self.now (cell_of c.args.page) c.args.slot c.requires.stands)

-- src/touch.rt:78:15
pub touch-requires-clause-unjoined : goal.touch-requires-clause-unjoined
touch-requires-clause-unjoined g c =
    let within : c.args.slot < length c.args.self.now.slots.items = known-home c.args.self.now (cell_of c.args.page) c.args.slot c.requires.stands in
    known-unjoined c.args.self.now (standing c.args.self.now (λ sides. HasSlotFor c.args.self.now sides.leaves (cell_of c.args.page) c.args.slot) c.requires.stands) c.args.slot c.index_mut-home.result.now
    (read-slot c.args.self.now.slots.items c.args.slot c.index_mut-home.result.now within c.index_mut-home.ensures.value)

-- src/touch.rt:78:15
pub touch-requires-clause-held : goal.touch-requires-clause-held
touch-requires-clause-held g c =
    let within : c.args.slot < length c.args.self.now.slots.items = known-home c.args.self.now (cell_of c.args.page) c.args.slot c.requires.stands in
    let part : held_of c.index_mut-home.result.now.cell ≤ frames_in c.args.self.now.slots.items = held-within c.args.self.now.slots.items c.args.slot c.index_mut-home.result.now (read-slot c.args.self.now.slots.items c.args.slot c.index_mut-home.result.now within c.index_mut-home.ensures.value) in
    let lent : tables_of c.args.self.now.directory + snapshot_frames c.args.self.now.snapshot + frames_in c.args.self.now.slots.items ≤ g.A.Allot.out (g.A.Allot.state c.args.allot.now) = c.requires.lent.lent in
    let moved : g.A.Allot.out (g.A.Allot.state c.insert.new.allot) + tables_of c.args.self.now.directory ≡ g.A.Allot.out (g.A.Allot.state c.args.allot.now) + tables_of c.insert.new.self = c.insert.ensures.out in
    omega (arith, part, lent, moved)

-- src/touch.rt:60:5
pub returns-in-Ok-touch-clause-made : goal.returns-in-Ok-touch-clause-made
returns-in-Ok-touch-clause-made g c =
    let old : PageTables = c.args.self.now in
    let within : c.args.slot < length c.args.self.now.slots.items = known-home c.args.self.now (cell_of c.args.page) c.args.slot c.requires.stands in
    let here : slice_get c.args.self.now.slots.items c.args.slot ≡ Some c.index_mut-home.result.now = read-slot c.args.self.now.slots.items c.args.slot c.index_mut-home.result.now within c.index_mut-home.ensures.value in
    let made = c.in-Ok-touch.ensures.made in
    let wants : List Want = missing_tables (keys old.directory) (cell_of c.args.page) in
    record {
      deals = deals_behind (missing_tables (keys old.directory) (cell_of c.args.page)) made.deals None;
      led = LeadsAlong-append g.A.Allot.goes (granted wants) (made.deals ++ []) (g.A.Allot.state c.args.allot.now) (g.A.Allot.state c.insert.new.allot) (g.A.Allot.state c.touch.new.allot)
          (subst (λ q. LeadsAlong g.A.Allot.goes (g.A.Allot.state c.args.allot.now) (granted (missing_tables (keys old.directory) q)) (g.A.Allot.state c.insert.new.allot))
          c.cell_and_index-cell.ensures.cell c.in-Ok.ensures.requests)
          (LeadsAlong-append g.A.Allot.goes made.deals [] (g.A.Allot.state c.insert.new.allot) (g.A.Allot.state c.touch.new.allot) (g.A.Allot.state c.touch.new.allot) made.led refl);
      follows = λ sides st.
          let fits : IsSlotFor sides.leaves (cell_of c.args.page) c.index_mut-home.result.now.owner =
          known-fits old (cell_of c.args.page) c.args.slot c.requires.stands sides st c.index_mut-home.result.now here in
          granted-touches old sides st c.args.page c.args.slot c.index_mut-home.result.now c.requires.new here fits c.touch.new.self made.deals
          (subst (λ i. TakesAccount (Touch i) c.index_mut-home.result.now.cell c.touch.new.self made.deals None (account old sides st c.args.page c.args.slot c.index_mut-home.result.now c.requires.new here fits)) c.cell_and_index-cell.ensures.index
          (made.follows (account old sides st c.args.page c.args.slot c.index_mut-home.result.now c.requires.new here fits) (stood old sides st c.args.page c.args.slot c.index_mut-home.result.now c.requires.new here fits)))
          (g.A.Allot.refused (g.A.Allot.state c.insert.new.allot)) (g.A.Allot.refused (g.A.Allot.state c.touch.new.allot))
          (subst (λ i. IsTouched i (g.A.Allot.refused (g.A.Allot.state c.insert.new.allot)) (g.A.Allot.refused (g.A.Allot.state c.touch.new.allot)) c.index_mut-home.result.now.cell c.touch.new.self)
          c.cell_and_index-cell.ensures.index c.in-Ok-touch.ensures.touched)
          _
          (c.in-Ok.ensures.added ∙ ap (λ q. insert old.directory q c.args.slot) c.cell_and_index-cell.ensures.cell) refl
          (ap (λ q. slice_set old.slots.items c.args.slot (record { owner = Some q; cell = c.touch.new.self })) c.cell_and_index-cell.ensures.cell);
    }

-- src/touch.rt:60:5
pub returns-in-Ok-touch-clause-lent : goal.returns-in-Ok-touch-clause-lent
returns-in-Ok-touch-clause-lent g c =
    let within : c.args.slot < length c.args.self.now.slots.items = known-home c.args.self.now (cell_of c.args.page) c.args.slot c.requires.stands in
    let here : slice_get c.args.self.now.slots.items c.args.slot ≡ Some c.index_mut-home.result.now = read-slot c.args.self.now.slots.items c.args.slot c.index_mut-home.result.now within c.index_mut-home.ensures.value in
    let new : Slot = record { owner = Some c.cell_and_index-cell.result.0; cell = c.touch.new.self } in
    let sums : frames_in (slice_set c.args.self.now.slots.items c.args.slot new) + held_of c.index_mut-home.result.now.cell ≡ frames_in c.args.self.now.slots.items + held_of c.touch.new.self = frames-set c.args.self.now.slots.items c.args.slot c.index_mut-home.result.now new here in
    let held : g.A.Allot.out (g.A.Allot.state c.touch.new.allot) + held_of c.index_mut-home.result.now.cell ≡ g.A.Allot.out (g.A.Allot.state c.insert.new.allot) + held_of c.touch.new.self = c.touch.ensures.held in
    let moved : g.A.Allot.out (g.A.Allot.state c.insert.new.allot) + tables_of c.args.self.now.directory ≡ g.A.Allot.out (g.A.Allot.state c.args.allot.now) + tables_of c.insert.new.self = c.insert.ensures.out in
    record {
      held = omega (arith, sums, held, moved);
      untold = c.touch.ensures.untold;
      slots = length-set c.args.self.now.slots.items c.args.slot new;
      snapshot = refl;
    }

-- src/touch.rt:60:5
pub returns-in-Err-touch-clause-made : goal.returns-in-Err-touch-clause-made
returns-in-Err-touch-clause-made g c =
    let old : PageTables = c.args.self.now in
    let cell : ℕ = cell_of c.args.page in
    let within : c.args.slot < length c.args.self.now.slots.items = known-home c.args.self.now (cell_of c.args.page) c.args.slot c.requires.stands in
    let here : slice_get c.args.self.now.slots.items c.args.slot ≡ Some c.index_mut-home.result.now = read-slot c.args.self.now.slots.items c.args.slot c.index_mut-home.result.now within c.index_mut-home.ensures.value in
    let made = c.in-Err-touch.ensures.made in
    let wants : List Want = missing_tables (keys old.directory) cell in
    let at : ℕ = c.in-Err-touch.refused.at in
    let added : c.insert.new.self ≡ insert old.directory cell c.args.slot = c.in-Ok.ensures.added ∙ ap (λ q. insert old.directory q c.args.slot) c.cell_and_index-cell.ensures.cell in
    let gone : c.remove.new.self ≡ old.directory = c.remove.ensures.removed ∙ ap (remove c.insert.new.self) c.cell_and_index-cell.ensures.cell ∙ ap (λ d. remove d cell) added ∙ added-removed old.directory cell c.args.slot c.requires.new in
    let more : tables_of c.insert.new.self ≡ tables_of old.directory + length wants = ap tables_of added ∙ tables_of-insert old.directory cell c.args.slot c.requires.new in
    let less : tables_of c.remove.new.self ≡ tables_of old.directory = ap tables_of gone in
    let back : tables_of c.insert.new.self - tables_of c.remove.new.self ≡ length wants = omega (arith, more, less) in
    record {
      deals = deals_behind wants made.deals (Some at);
      led = LeadsAlong-append g.A.Allot.goes (granted wants) (made.deals ++ returned (length wants)) (g.A.Allot.state c.args.allot.now) (g.A.Allot.state c.insert.new.allot) (g.A.Allot.state c.remove.new.allot)
          (subst (λ q. LeadsAlong g.A.Allot.goes (g.A.Allot.state c.args.allot.now) (granted (missing_tables (keys old.directory) q)) (g.A.Allot.state c.insert.new.allot))
          c.cell_and_index-cell.ensures.cell c.in-Ok.ensures.requests)
          (LeadsAlong-append g.A.Allot.goes made.deals (returned (length wants)) (g.A.Allot.state c.insert.new.allot) (g.A.Allot.state c.touch.new.allot) (g.A.Allot.state c.remove.new.allot) made.led
          (subst (λ n. LeadsAlong g.A.Allot.goes (g.A.Allot.state c.touch.new.allot) (returned n) (g.A.Allot.state c.remove.new.allot)) back c.remove.ensures.given));
      follows = λ sides st.
          let fits : IsSlotFor sides.leaves cell c.index_mut-home.result.now.owner =
          known-fits old cell c.args.slot c.requires.stands sides st c.index_mut-home.result.now here in
          refused-touches old sides st c.args.page c.args.slot c.index_mut-home.result.now c.requires.new here fits c.touch.new.self made.deals at
          (subst (λ i. TakesAccount (Touch i) c.index_mut-home.result.now.cell c.touch.new.self made.deals (Some at) (account old sides st c.args.page c.args.slot c.index_mut-home.result.now c.requires.new here fits)) c.cell_and_index-cell.ensures.index
          (made.follows (account old sides st c.args.page c.args.slot c.index_mut-home.result.now c.requires.new here fits) (stood old sides st c.args.page c.args.slot c.index_mut-home.result.now c.requires.new here fits)))
          _
          gone refl
          (ap (λ view. slice_set old.slots.items c.args.slot (record { owner = c.index_mut-home.result.now.owner; cell = view })) c.in-Err-touch.ensures.refused ∙ set-same old.slots.items c.args.slot c.index_mut-home.result.now here);
    }

-- src/touch.rt:70:5
pub invariant_of-self-in-Ok-touch-clause-even : goal.invariant_of-self-in-Ok-touch-clause-even
invariant_of-self-in-Ok-touch-clause-even g c =
    let old : PageTables = c.args.self.now in
    let slot : Slot = c.index_mut-home.result.now in
    let within : c.args.slot < length old.slots.items = known-home old (cell_of c.args.page) c.args.slot c.requires.stands in
    let here : slice_get old.slots.items c.args.slot ≡ Some slot = read-slot old.slots.items c.args.slot slot within c.index_mut-home.ensures.value in
    still-even _ _ _ _ (known-number c.requires.stands (λ it.
    let fits : IsSlotFor it.0.leaves (cell_of c.args.page) slot.owner = known-fits old (cell_of c.args.page) c.args.slot c.requires.stands it.0 it.1.0 slot here in
    let stood_here = stood old it.0 it.1.0 c.args.page c.args.slot slot c.requires.new here fits in
    let takes = c.in-Ok-touch.ensures.made.follows (account old it.0 it.1.0 c.args.page c.args.slot slot c.requires.new here fits) stood_here in
    even-slots old.slots.items c.args.slot slot (record { owner = Some c.cell_and_index-cell.result.0; cell = c.touch.new.self }) here
    (holds-own slot.cell _ stood_here (λ account stands. c.tell_share.ensures account stands))
    (holds-own c.touch.new.self _ takes.stands (λ account stands. c.tell_share-in-Ok-touch.ensures account stands)))) c.args.self.now.even

pub returns-in-Ok-touch-clause-writable : goal.returns-in-Ok-touch-clause-writable
returns-in-Ok-touch-clause-writable g c =
    let old : PageTables = c.args.self.now in
    let cell : ℕ = cell_of c.args.page in
    let home : Slot = c.index_mut-home.result.now in
    let added : c.insert.new.self ≡ insert old.directory cell c.args.slot = c.in-Ok.ensures.added ∙ ap (λ q. insert old.directory q c.args.slot) c.cell_and_index-cell.ensures.cell in
    let it : Slot = record { owner = Some c.cell_and_index-cell.result.0; cell = c.touch.new.self } in
    let within : c.args.slot < length old.slots.items = known-home old cell c.args.slot c.requires.stands in
    let here : slice_get old.slots.items c.args.slot ≡ Some home = read-slot old.slots.items c.args.slot home within c.index_mut-home.ensures.value in
    let unwritten : (p : ℕ) → writable_at home.cell.writable p ≡ false = λ p. known-test c.requires.stands (λ known.
    none-writable old known.0 known.1.0 c.args.page c.args.slot home c.requires.new here (known-fits old cell c.args.slot c.requires.stands known.0 known.1.0 home here)
    c.covers.ensures.alone p) in
    page-written c.args.page c.args.slot old _ it
    (ap (λ d. get d cell) added ∙ get_inserted_here old.directory cell c.args.slot cell refl)
    (slice_get-set-here old.slots.items c.args.slot it within)
    (λ q apart. ap (λ d. get d q) added ∙ get_inserted_apart old.directory cell c.args.slot q apart)
    (λ t apart. slice_get-set-apart old.slots.items c.args.slot t it apart)
    (λ q t apart is same. known-impossible c.requires.stands (λ known.
    other-home known.0.leaves old.slots.items c.args.slot t cell q home here (known-fits old cell c.args.slot c.requires.stands known.0 known.1.0 home here) (known.1.0.named q t is) apart same))
    (subst (λ i. writable_at c.touch.new.self.writable i ≡ true) c.cell_and_index-cell.ensures.index c.in-Ok-touch.ensures.allowed)
    (λ q same apart.
    others-set home.cell.writable c.touch.new.self.writable (c.args.page % 512) (q % 512)
    (subst (λ i. c.touch.new.self.writable ≡ slice_set home.cell.writable i true) c.cell_and_index-cell.ensures.index c.in-Ok-touch.ensures.writable) apart ∙ unwritten (q % 512)
    ∙ sym (never-written old q (ap (get old.directory) same ∙ c.requires.new)))

-- src/touch.rt:97:9
pub prove-unreachable-requires : goal.prove-unreachable-requires
prove-unreachable-requires g c =
    let old : PageTables = c.args.self.now in
    let cell : ℕ = cell_of c.args.page in
    let home : Slot = c.index_mut-home.result.now in
    let within : c.args.slot < length old.slots.items = known-home old cell c.args.slot c.requires.stands in
    let here : slice_get old.slots.items c.args.slot ≡ Some home = read-slot old.slots.items c.args.slot home within c.index_mut-home.ensures.value in
    known-impossible c.requires.stands (λ known.
    let fits : IsSlotFor known.0.leaves cell home.owner = known-fits old cell c.args.slot c.requires.stands known.0 known.1.0 home here in
    false≢true (sym (c.covers.ensures.account (account old known.0 known.1.0 c.args.page c.args.slot home c.requires.new here fits)
    (stood old known.0 known.1.0 c.args.page c.args.slot home c.requires.new here fits)
    ∙ none-present old known.0 known.1.0 c.args.page c.args.slot home c.requires.new here fits 0 512) ∙ c.if-prove.true))

pub returns-in-Err-clause-writable : goal.returns-in-Err-clause-writable
returns-in-Err-clause-writable g c = λ page.
    let old : PageTables = c.args.self.now in
    keeps-writing old (record old { directory = c.insert.new.self; even = old.even }) c.in-Err.ensures.kept (known-owner old (standing
    old (λ sides. HasSlotFor old sides.leaves (cell_of c.args.page) c.args.slot) c.requires.stands))
    (λ s slot found. (slot, (found, refl))) page

pub returns-in-Err-touch-clause-writable : goal.returns-in-Err-touch-clause-writable
returns-in-Err-touch-clause-writable g c = λ page.
    let old : PageTables = c.args.self.now in
    let cell : ℕ = cell_of c.args.page in
    let home : Slot = c.index_mut-home.result.now in
    let within : c.args.slot < length old.slots.items = known-home old cell c.args.slot c.requires.stands in
    let here : slice_get old.slots.items c.args.slot ≡ Some home = read-slot old.slots.items c.args.slot home within c.index_mut-home.ensures.value in
    let added : c.insert.new.self ≡ insert old.directory cell c.args.slot = c.in-Ok.ensures.added ∙ ap (λ q. insert old.directory q c.args.slot) c.cell_and_index-cell.ensures.cell in
    let gone : c.remove.new.self ≡ old.directory = c.remove.ensures.removed ∙ ap (remove c.insert.new.self) c.cell_and_index-cell.ensures.cell ∙ ap (λ d. remove d cell) added ∙ added-removed old.directory cell c.args.slot c.requires.new in
    let same_slots : slice_set old.slots.items c.args.slot (record { owner = home.owner; cell = c.touch.new.self }) ≡ old.slots.items =
    ap (λ view. slice_set old.slots.items c.args.slot (record { owner = home.owner; cell = view })) c.in-Err-touch.ensures.refused
    ∙ set-same old.slots.items c.args.slot home here in
    keeps-writing old (record old {
      directory = c.remove.new.self;
      slots = with_item old.slots c.args.slot (record {
        owner = home.owner;
        cell = c.touch.new.self;
      });
      even = subst (λ slots. frames_in slots ≡ shares_in slots) (sym same_slots) old.even;
    }) gone (known-owner
    old (standing old (λ sides. HasSlotFor old sides.leaves cell c.args.slot) c.requires.stands))
    (bits-set old.slots.items c.args.slot home (record { owner = home.owner; cell = c.touch.new.self }) here (ap (λ cell. cell.writable) c.in-Err-touch.ensures.refused)) page
