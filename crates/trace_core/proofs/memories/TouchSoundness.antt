-- Behind a touch and behind a store a sound kernel is sound, and keeps what each call on a memory keeps.
use Rattle.std.proofs.Common.{◌≡◌, ℕ, ◌+◌, ◌-◌, ◌≤◌, ◌<◌, ◌^◌, true, false, cond, List, [], length, Option, Some, None, Result, Ok, Err, refl, sym, ◌∙◌, ap, subst, arith, le_trans, inl}
use Rattle.std.specs.Prelude.{max, is_some}
use Rattle.std.specs.List.{All}
use Rattle.std.specs.FinMap.{get}
use Rattle.vm_base.specs.Places.{page_of, page_count, cells_of_range}
use Rattle.vm_base.specs.FlatMemory.{FlatMemory, IsFlat}
use Rattle.vm_base.specs.FlatStep.{Refusal, OutsideAreas, ReadOnly, Taken, TooManyAreas, touch_of, with_pages}
use Rattle.vm_base.specs.MemoryState.{IsMemory, IsKept, own_of}
use Rattle.vm_base.specs.MemoryCalls.{IsReady, after_store}
use Rattle.kernel_meaning.specs.Requests.{Answer, answers_of}
use Rattle.kernel_meaning.specs.FrameLaw.{lacks_slots}
use Rattle.kernel_meaning.specs.EventRequests.{FrameRefusal, Progress, pages_touched}
use Rattle.trace_events.specs.declared.outcome.Outcome.{Outcome}
use Rattle.trace_events.specs.declared.outcome.Outcome.TheVariants.{CellsFull}
use Rattle.trace_core.specs.Answering.{LeadOn}
use Rattle.trace_core.specs.KernelState.{Machine, KernelState}
use Rattle.trace_core.specs.EventMeaning.{EventEnd, begun, only_answers, touch_answered, touch_judged}
use Rattle.trace_core.specs.KernelStanding.{KernelParts, KernelStands, EventRan, sides_of}
use Rattle.trace_core.specs.KernelSeen.{KernelNotes, IsSound, memory_of, AreForkedFrom, most_touched, most_answered}
use Rattle.trace_core.specs.TouchAnswers.{with_stored}
use Rattle.page_tables.proofs.view.ViewSides.{seen-pages, seen-ready}
use Rattle.vm_base.proofs.FlatLaws.{keys-with_bytes}
use Rattle.area_list.proofs.FlatSteps.{touched_is, touch-flat, stored-flat}
use Rattle.vm_base.proofs.OwnFrames.{own-alike}
use Rattle.trace_core.proofs.supplies.AnswerLemmas.{deals_lead_on, no_request_has_led}
use Rattle.trace_core.proofs.events.LastRefusals.{count-grows}
use Rattle.trace_core.proofs.memories.Touches.{used-seen, stored-seen}
use Rattle.page_tables.specs.TablesView.{pages_of}

-- ---- a sound kernel

-- what holds of the memory and of the snapshots behind an end, with the most frames by its answer
record Stays (most address n : ℕ) (old new : KernelParts) (notes : KernelNotes) (end : EventEnd) : Type 0 where
  flat : IsFlat end.after.world.parent
  own : own_of end.after.world.parent ≤ most_answered old.tables address n most end.outcome
  forked : AreForkedFrom notes.forked end.after.world.snapshots end.after.world.last

-- the greater one of two numbers is no less than the first
pub le-max : (m n : ℕ) → m ≤ max m n
le-max m n = omega arith

le-max-right : (m n : ℕ) → n ≤ max m n
le-max-right m n = omega arith

module _ (old new : KernelParts) (notes : KernelNotes) (machine : Machine) (state : KernelState) (sound : IsSound old notes machine state) (addr len : ℕ) where
  abbrev StaysSo : EventEnd → Type 0
  StaysSo end = Stays notes.most addr len old new notes end

  -- the frames that a touch wants are those of the memory behind it
  reached : (memory : FlatMemory) → touch_of state.world.parent addr len ≡ Ok memory → own_of memory ≤ most_touched old.tables addr len notes.most
  reached memory is =
      let pages : pages_of old.tables ≡ state.world.parent.present = seen-pages old.tables (sides_of state sound.stands.pages) sound.stands.tables in
      let wanted : own_of (record { areas = []; present = with_pages (pages_of old.tables) (page_of addr) (page_count addr len) }) ≡ own_of memory =
      ap (λ present. own_of (record { areas = []; present = with_pages present (page_of addr) (page_count addr len) })) pages
      ∙ ap own_of (touched_is state.world.parent addr len memory is).1 in
      subst (λ own. own ≤ most_touched old.tables addr len notes.most) wanted (le-max-right notes.most _)

  answered-stays : (memory : FlatMemory) (refused : Option FrameRefusal) (progress : Progress) → touch_of state.world.parent addr len ≡ Ok memory → StaysSo (touch_answered state memory refused progress)
  answered-stays memory None progress is = record { flat = touch-flat state.world.parent addr len memory sound.flat is; own = reached memory is; forked = sound.forked }
  answered-stays memory (Some refusal) progress is = record { flat = sound.flat; own = le_trans sound.own (le-max notes.most _); forked = sound.forked }

  judged-stays : (answers : List Answer) (touch : Result FlatMemory Refusal) → touch_of state.world.parent addr len ≡ touch → StaysSo (touch_judged machine state answers addr len touch)
  judged-stays answers (Err (OutsideAreas page)) is = record { flat = sound.flat; own = sound.own; forked = sound.forked }
  judged-stays answers (Err (ReadOnly page)) is = record { flat = sound.flat; own = sound.own; forked = sound.forked }
  judged-stays answers (Err (Taken page)) is = record { flat = sound.flat; own = sound.own; forked = sound.forked }
  judged-stays answers (Err TooManyAreas) is = record { flat = sound.flat; own = sound.own; forked = sound.forked }
  judged-stays answers (Ok memory) is =
      let progress : Progress = pages_touched (page_of addr) (page_count addr len) (begun state answers) in
      elim (lacks_slots machine.slots state.leaves (cells_of_range addr len)) as (λ b. StaysSo (cond b (only_answers state CellsFull) (touch_answered state memory progress.refused progress))) [
        | true ↦ record { flat = sound.flat; own = sound.own; forked = sound.forked }
        | false ↦ answered-stays memory progress.refused progress is
      ]

  -- a sound kernel is sound behind a touch, where the most frames are noted
  pub touch-sound : (outcome : Outcome) (later : KernelNotes) → later.most ≡ most_answered old.tables addr len notes.most outcome → later.forked ≡ notes.forked
      → (ran : EventRan old new machine (λ answers. touch_judged machine state answers addr len (touch_of state.world.parent addr len)) outcome) → IsSound new later machine ran.after
  touch-sound outcome later most forked ran =
      let stays = subst StaysSo ran.ends (judged-stays (answers_of ran.deals) (touch_of state.world.parent addr len) refl) in
      record {
        stands = ran.stands;
        flat = stays.flat;
        own = subst (λ most. own_of ran.after.world.parent ≤ most) (sym most) stays.own;
        forked = subst (λ tables. AreForkedFrom tables ran.after.world.snapshots ran.after.world.last) (sym forked) stays.forked;
      }

  -- what a touch keeps of a memory
  pub touch-keeps : (outcome : Outcome) (later : ℕ) → EventRan old new machine (λ answers. touch_judged machine state answers addr len (touch_of state.world.parent addr len)) outcome
      → notes.most ≤ later → old.supply.refused ≤ 2 ^ 64 - 1 → IsMemory (memory_of old notes.most) → IsMemory (memory_of new later)
      → IsKept (memory_of old notes.most) (memory_of new later) (cells_of_range addr len)
  touch-keeps outcome later ran grown fits before after =
      let on : LeadOn old.supply.policies state.named state.made [] old.supply ran.deals new.supply =
      deals_lead_on old.supply.policies state.named state.made [] old.supply new.supply ran.deals sound.stands.supply.pending (no_request_has_led old.supply.made old.supply.policies) ran.led in
      record {
        before = before;
        after = after;
        room = on.all;
        slots = ran.stands.slots ∙ sym sound.stands.slots;
        used = used-seen old new machine state addr len notes.most later outcome sound.stands ran;
        enough = refl;
        counted = subst (λ count. old.supply.refused ≤ count) (sym on.refused) (count-grows old.supply.refused ran.deals fits);
        grown = grown;
      }

-- ---- behind a store

module _ (old new : KernelParts) (notes : KernelNotes) (machine : Machine) (state : KernelState) (sound : IsSound old notes machine state) (addr : ℕ) (bytes : List ℕ)
    (ready : IsReady (memory_of old notes.most) addr (length bytes)) (now : KernelStands new machine (with_stored state addr bytes)) where
  there : (page : ℕ) → page_of addr ≤ page → page < page_of addr + page_count addr (length bytes) → is_some (get state.world.parent.present page) ≡ true
  there page low high = (seen-ready old.tables (sides_of state sound.stands.pages) sound.stands.tables old.areas page (ready page (low, high))).1

  -- a sound kernel is sound behind a store
  pub store-sound : All (λ byte. byte < 256) bytes → IsSound new notes machine (with_stored state addr bytes)
  store-sound fit =
      let same : own_of (with_stored state addr bytes).world.parent ≡ own_of state.world.parent =
      own-alike (with_stored state addr bytes).world.parent state.world.parent (keys-with_bytes state.world.parent.present addr bytes there) in
      record {
        stands = now;
        flat = stored-flat state.world.parent addr bytes sound.flat fit there;
        own = subst (λ own. own ≤ notes.most) (sym same) sound.own;
        forked = sound.forked;
      }

  -- what a store keeps of a memory
  pub store-keeps : new ≡ record old { tables = new.tables } → IsMemory (memory_of old notes.most) → IsMemory (memory_of new notes.most) → IsKept (memory_of old notes.most) (memory_of new notes.most) []
  store-keeps others before after =
      let same : memory_of new notes.most ≡ after_store (memory_of old notes.most) addr bytes = stored-seen old machine state sound.stands notes.most addr bytes ready new now others in
      subst (λ memory. IsKept (memory_of old notes.most) memory []) (sym same) (record {
        before = before;
        after = subst IsMemory same after;
        room = refl;
        slots = refl;
        used = λ cell used. inl used;
        enough = refl;
        counted = omega arith;
        grown = omega arith;
      })
