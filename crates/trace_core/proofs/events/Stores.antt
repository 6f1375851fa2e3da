-- Bytes are stored in pages that may be stored to, and a write is a touch with a store behind it.
use Rattle.std.proofs.Common.{◌≡◌, ℕ, ◌<◌, List, [], ◌∷◌, ◌++◌, length, Option, Some, None, Result, Ok, Err, refl, sym, ◌∙◌, ap, subst, arith}
use Rattle.std.specs.Prelude.{Bool, true, false, cond, ◌==◌}
use Rattle.std.proofs.lemmas.Bool.Decides.{nat_tests}
use Rattle.vm_base.specs.declared.faults.Fault.{Fault}
use Rattle.vm_base.specs.declared.faults.Fault.TheVariants as fault
use Rattle.vm_base.specs.Deals.{Deal, LeadsAlong}
use Rattle.vm_base.specs.Places.{page_of, page_count, cells_of_range}
use Rattle.vm_base.specs.FlatMemory.{FlatMemory}
use Rattle.vm_base.specs.FlatStep.{Refusal, OutsideAreas, ReadOnly, Taken, TooManyAreas, touch_of, stored, with_bytes}
use Rattle.kernel_meaning.specs.Requests.{Answer, answers_of}
use Rattle.kernel_meaning.specs.FrameLaw.{lacks_slots}
use Rattle.kernel_meaning.specs.EventRequests.{Progress, FrameRefusal, pages_touched}
use Rattle.page_tables.specs.declared.tables.PageTables.{PageTables}
use Rattle.page_tables.specs.Standing.{TablesStandFor, slot_count}
use Rattle.page_tables.proofs.view.TablesShown.{same-number}
use Rattle.page_tables.specs.Held.{frames_of}
use Rattle.page_tables.specs.Sides.{Sides}
use Rattle.trace_events.specs.declared.outcome.Outcome.{Outcome}
use Rattle.trace_events.specs.declared.outcome.Outcome.TheVariants.{Done, CellsFull}
use Rattle.page_tables.specs.Permissions.{LetsWrite, KeepsWriting}
use Rattle.trace_core.specs.SupplyState.{SupplyGoes}
use Rattle.trace_core.specs.KernelState.{Machine, KernelState}
use Rattle.trace_core.specs.EventMeaning.{EventEnd, begun, only_answers, touch_answered, touch_judged, written}
use Rattle.trace_core.specs.KernelStanding.{KernelParts, KernelStands, EventRan}
use Rattle.trace_core.specs.TouchAnswers.{with_stored, fault_outcome}
use Rattle.trace_core.proofs.events.Writes.{touch_end}
use Rattle.page_tables.specs.TablesView.{HasSameSnapshot}

-- a test for no bytes
pub no-bytes : (bytes : List ℕ) → (length bytes == 0) ≡ true → length bytes ≡ 0
no-bytes bytes none = grind (arith, nat_tests)

pub some-bytes : (bytes : List ℕ) → (length bytes == 0) ≡ false → 0 < length bytes
some-bytes bytes some = grind (arith, nat_tests)

-- bytes were stored in the tables of a kernel
pub stored-stands : (parts : KernelParts) (machine : Machine) (state : KernelState) (addr : ℕ) (bytes : List ℕ) (new : PageTables) → KernelStands parts machine state
    → ((sides : Sides) → TablesStandFor parts.tables sides → TablesStandFor new (record sides { pages = with_bytes sides.pages addr bytes }))
    → frames_of new ≡ frames_of parts.tables
    → HasSameSnapshot parts.tables new → slot_count new ≡ slot_count parts.tables
    → KernelStands (record parts { tables = new }) machine (with_stored state addr bytes)
stored-stands parts machine state addr bytes new st stands held snapshot slots = record {
  pages = st.pages;
  areas = st.areas;
  tables = stands _ st.tables;
  number = same-number parts.tables new snapshot ∙ st.number;
  memories = st.memories;
  losses = st.losses;
  last = st.last;
  counts = st.counts;
  supply = record { frames = st.supply.frames; held = st.supply.held; asker = st.supply.asker; refused = st.supply.refused; pending = st.supply.pending };
  out = st.out ∙ sym held;
  slots = slots ∙ st.slots;
  limit = st.limit;
}

-- nothing was stored
pub stands-unstored : (parts : KernelParts) (machine : Machine) (state : KernelState) (addr : ℕ) (bytes : List ℕ) → length bytes ≡ 0 → KernelStands parts machine state → KernelStands parts machine (with_stored state addr bytes)
stands-unstored parts machine state addr [] none st = st
stands-unstored parts machine state addr (byte ∷ bytes) none st = absurd (omega arith)

-- ---- a write

-- the end of a touch, with bytes stored where it was granted
abbrev stored_where : Outcome → ℕ → List ℕ → EventEnd → EventEnd
stored_where Done addr bytes end = record end { after = with_stored end.after addr bytes }
stored_where other addr bytes end = end

abbrev end_stored : ℕ → List ℕ → EventEnd → EventEnd
end_stored addr bytes end = stored_where end.outcome addr bytes end

answered-stored : (state : KernelState) (memory : FlatMemory) (refused : Option FrameRefusal) (progress : Progress) (addr : ℕ) (bytes : List ℕ)
    → touch_answered state (record memory { present = with_bytes memory.present addr bytes }) refused progress ≡ end_stored addr bytes (touch_answered state memory refused progress)
answered-stored state memory None progress addr bytes = refl
answered-stored state memory (Some refusal) progress addr bytes = refl

full-stored : (state : KernelState) (full : Bool) (end then : EventEnd) (addr : ℕ) (bytes : List ℕ) → then ≡ end_stored addr bytes end
    → cond full (only_answers state CellsFull) then ≡ end_stored addr bytes (cond full (only_answers state CellsFull) end)
full-stored state true end then addr bytes same = refl
full-stored state false end then addr bytes same = same

-- a touch that ends with bytes stored, however the areas judge
judged-stored : (machine : Machine) (state : KernelState) (answers : List Answer) (addr n : ℕ) (bytes : List ℕ) (touch : Result FlatMemory Refusal)
    → touch_judged machine state answers addr n (stored touch addr bytes) ≡ end_stored addr bytes (touch_judged machine state answers addr n touch)
judged-stored machine state answers addr n bytes (Ok memory) =
    let progress : Progress = pages_touched (page_of addr) (page_count addr n) (begun state answers) in
    full-stored state (lacks_slots machine.slots state.leaves (cells_of_range addr n)) (touch_answered state memory progress.refused progress) _ addr bytes
    (answered-stored state memory progress.refused progress addr bytes)
judged-stored machine state answers addr n bytes (Err (OutsideAreas page)) = refl
judged-stored machine state answers addr n bytes (Err (ReadOnly page)) = refl
judged-stored machine state answers addr n bytes (Err (Taken page)) = refl
judged-stored machine state answers addr n bytes (Err TooManyAreas) = refl

-- a touch that ends refused has nothing stored behind it
refused-stored : (addr : ℕ) (bytes : List ℕ) (why : Fault) (deals : List Deal) (after : KernelState)
    → end_stored addr bytes (record { outcome = fault_outcome why; deals = deals; after = after }) ≡ record { outcome = fault_outcome why; deals = deals; after = after }
refused-stored addr bytes (fault.NoArea page) deals after = refl
refused-stored addr bytes (fault.NoWrite page) deals after = refl
refused-stored addr bytes (fault.NoFrame at page) deals after = refl
refused-stored addr bytes (fault.Overlap page) deals after = refl
refused-stored addr bytes fault.AreasFull deals after = refl
refused-stored addr bytes fault.CellsFull deals after = refl

module _ (parts mid : KernelParts) (machine : Machine) (state : KernelState) (addr : ℕ) (bytes : List ℕ) where
  -- a touch was granted, and bytes were stored behind it
  pub ran-stored : (new : KernelParts) → new ≡ record mid { tables = new.tables } → (ran : EventRan parts mid machine (touch_end machine state addr (length bytes)) Done)
      → KernelStands new machine (with_stored ran.after addr bytes) → EventRan parts new machine (λ answers. written machine state answers addr bytes) Done
  ran-stored new same ran stands = record {
    deals = ran.deals;
    led = subst (LeadsAlong SupplyGoes parts.supply ran.deals) (sym (ap (λ p. p.supply) same)) ran.led;
    after = with_stored ran.after addr bytes;
    ends = judged-stored machine state (answers_of ran.deals) addr (length bytes) bytes (touch_of state.world.parent addr (length bytes)) ∙ ap (end_stored addr bytes) ran.ends;
    further = λ rest.
        judged-stored machine state (answers_of ran.deals ++ rest) addr (length bytes) bytes (touch_of state.world.parent addr (length bytes)) ∙ ap (end_stored addr bytes) (ran.further rest);
    stands = stands;
  }

  -- a touch was refused, and nothing was stored
  pub ran-unstored : (why : Fault) → EventRan parts mid machine (touch_end machine state addr (length bytes)) (fault_outcome why)
      → EventRan parts mid machine (λ answers. written machine state answers addr bytes) (fault_outcome why)
  ran-unstored why ran = record {
    deals = ran.deals;
    led = ran.led;
    after = ran.after;
    ends = judged-stored machine state (answers_of ran.deals) addr (length bytes) bytes (touch_of state.world.parent addr (length bytes))
        ∙ ap (end_stored addr bytes) ran.ends ∙ refused-stored addr bytes why ran.deals ran.after;
    further = λ rest.
        judged-stored machine state (answers_of ran.deals ++ rest) addr (length bytes) bytes (touch_of state.world.parent addr (length bytes))
        ∙ ap (end_stored addr bytes) (ran.further rest) ∙ refused-stored addr bytes why ran.deals ran.after;
    stands = ran.stands;
  }

-- what a touch let be written to stays so behind a store
pub lets-kept : (first n : ℕ) (old amid new : PageTables) → LetsWrite first n old amid → KeepsWriting amid new → LetsWrite first n old new
lets-kept first n old amid new lets keeps = record {
  within = λ page low high. keeps page ∙ lets.within page low high;
  still = λ page may. keeps page ∙ lets.still page may;
  apart = λ page beyond. keeps page ∙ lets.apart page beyond;
}
