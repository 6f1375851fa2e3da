-- A touch and a store of the kernel keep what clauses know of a memory, whatever state it stands for.
use Rattle.std.proofs.Common.{◌≡◌, ℕ, ◌+◌, ◌-◌, Fits, w8, slice_index_or, ◌≤◌, ◌<◌, ◌^◌, List, [], length, Result, Ok, Err, refl, sym, ◌∙◌, ap, subst, arith, inl}
use Rattle.std.specs.Prelude.{max, OnOk, IfErr}
use Rattle.std.proofs.lemmas.Bool.{le-ltb}
use Rattle.std.proofs.lemmas.List.Elements.{All-from_get_or}
use Rattle.std.specs.List.{All}
use Rattle.std.specs.FinSet as set
use Rattle.std.proofs.Math.Logic.{∥∥₁_map, ∥∥₁_elim}
use Rattle.vm_base.specs.declared.faults.Fault.{Fault}
use Rattle.vm_base.specs.Places.{page_of, cells_of_range}
use Rattle.vm_base.specs.FlatStep.{touch_of}
use Rattle.vm_base.specs.MemoryState.{MemoryState, IsMemory, IsKept, own_of}
use Rattle.vm_base.specs.MemoryCalls.{Touches, TouchFails, IsReady, after_store, if_slots}
use Rattle.trace_events.specs.declared.outcome.Outcome.{Outcome}
use Rattle.trace_events.specs.declared.outcome.Outcome.TheVariants.{Done, Bytes, Held, AreaRow, Copied, Nothing, Refused, Lost, NoArea, NoWrite, Overlap, AreasFull, CellsFull, NoFrame, TooMany, NoSnap}
use Rattle.trace_core.specs.KernelState.{Machine, KernelState}
use Rattle.trace_core.specs.EventMeaning.{touch_judged}
use Rattle.trace_core.specs.KernelStanding.{KernelParts, KernelStands, EventRan, sides_of}
use Rattle.trace_core.specs.KernelSeen.{KernelNotes, IsKernelNoted, HasReached, memory_of, kernel_memory, most_answered, most_behind_touch}
use Rattle.trace_core.proofs.memories.WithEnough.{telling, told-touches, told-fails, told-kept}
use Rattle.page_tables.specs.declared.tables.PageTables.{PageTables}
use Rattle.trace_core.specs.TouchAnswers.{touch_outcome, IsReadyKernel, LeavesReady, LacksPage, with_stored}
use Rattle.trace_core.proofs.memories.ClauseProps.{state-prop, Touches-prop, TouchFails-prop, known-kept}
use Rattle.trace_core.proofs.memories.KernelMemories.{known-memory}
use Rattle.page_tables.proofs.view.ViewSides.{seen-ready}
use Rattle.trace_core.proofs.memories.Touches.{touches-seen, fails-seen, stored-seen}
use Rattle.trace_core.proofs.memories.TouchSoundness.{touch-sound, touch-keeps, store-sound, store-keeps}

-- ---- a touch of no bytes

pub touches-none : (memory : MemoryState) (addr len : ℕ) → len ≡ 0 → IsMemory memory → Touches memory memory addr len
touches-none memory addr len none its =
    subst (λ n. Touches memory memory addr n) (sym none) (record {
      mem = ap (λ out. if_slots out (Ok memory.mem)) (le-ltb (memory.slots - set.len memory.used) 0 (omega arith));
      most = largest memory.most (own_of memory.mem) its.own;
      ready = λ page within. absurd (past (page_of addr) page within.0 within.1);
      keeps = λ page ready. ready;
    })
  where
    largest : (m n : ℕ) → n ≤ m → m ≡ max m n
    largest m n le = omega (arith, le)

    past : (first page : ℕ) → first ≤ page → page < first + 0 → ⊥
    past first page low high = omega (arith, low, high)

-- a memory keeps all when nothing happens
pub kept-same : (memory : MemoryState) (cells : List ℕ) → IsMemory memory → IsKept memory memory cells
kept-same memory cells its = record {
  before = its;
  after = its;
  room = refl;
  slots = refl;
  used = λ cell used. inl used;
  enough = refl;
  counted = omega arith;
  grown = omega arith;
}

-- the most frames never fall
pub answered-grows : (before : PageTables) (address n most : ℕ) (outcome : Outcome) → most ≤ most_answered before address n most outcome
answered-grows before address n most Done = omega arith
answered-grows before address n most (Bytes bytes) = omega arith
answered-grows before address n most (Held held free) = omega arith
answered-grows before address n most (AreaRow row) = omega arith
answered-grows before address n most Copied = omega arith
answered-grows before address n most Nothing = omega arith
answered-grows before address n most (Refused at) = omega arith
answered-grows before address n most (Lost at) = omega arith
answered-grows before address n most (NoArea page) = omega arith
answered-grows before address n most (NoWrite page) = omega arith
answered-grows before address n most (Overlap page) = omega arith
answered-grows before address n most AreasFull = omega arith
answered-grows before address n most CellsFull = omega arith
answered-grows before address n most (NoFrame at) = omega arith
answered-grows before address n most TooMany = omega arith
answered-grows before address n most NoSnap = omega arith

-- ---- a touch

module _ (old new : KernelParts) (notes later : KernelNotes) (addr len : ℕ) (known : ∥ IsKernelNoted old notes ∥₁) where
  -- it ran from each state that the parts stand for
  abbrev pub TouchRan : Result (Unit {0}) Fault → Type 0
  TouchRan result = (machine : Machine) (state : KernelState) → KernelStands old machine state
      → EventRan old new machine (λ answers. touch_judged machine state answers addr len (touch_of state.world.parent addr len)) (touch_outcome result)

  abbrev TouchReady : Result (Unit {0}) Fault → Type 0
  TouchReady result = (machine : Machine) (state : KernelState) → KernelStands old machine state → LeavesReady new machine state.leaves addr len result

  abbrev TouchLacks : Fault → Type 0
  TouchLacks fault = (machine : Machine) (state : KernelState) → KernelStands old machine state → LacksPage state.world.parent addr len fault

  -- what is noted over the tables as they were
  module _ (before : PageTables) (same : before ≡ old.tables) (result : Result (Unit {0}) Fault) (noted : later.most ≡ most_behind_touch before addr len notes.most result) where
    most-noted : later.most ≡ most_behind_touch old.tables addr len notes.most result
    most-noted = noted ∙ ap (λ tables. most_behind_touch tables addr len notes.most result) same

    -- the kernel is sound again
    pub known-touched : later.forked ≡ notes.forked → TouchRan result → ∥ IsKernelNoted new later ∥₁
    known-touched forked ran = ∥∥₁_map known (λ it.
        let its = ran it.0 it.1.0 it.1.1.stands in
        (it.0, (its.after, touch-sound old new notes it.0 it.1.0 it.1.1 addr len (touch_outcome result) later most-noted forked its)))

    -- the most frames never fall
    touch-grows : notes.most ≤ later.most
    touch-grows = subst (λ n. notes.most ≤ n) (sym noted) (answered-grows before addr len notes.most (touch_outcome result))

    -- it keeps what each call keeps
    pub touch-kept : later.forked ≡ notes.forked → TouchRan result → old.supply.out ≤ old.supply.made → new.supply.out ≤ new.supply.made
        → (count : ℕ) → count ≤ 2 ^ 64 - 1 → ((machine : Machine) (state : KernelState) → KernelStands old machine state → count ≡ state.world.refused)
        → later.enough ≡ notes.enough → HasReached old notes → HasReached new later → IsKept (kernel_memory old notes) (kernel_memory new later) (cells_of_range addr len)
    touch-kept forked ran within then count fits told enough stood reached = told-kept (memory_of old notes.most) (memory_of new later.most) notes.enough later.enough enough (cells_of_range addr len) stood reached (
        known-kept (memory_of old notes.most) (memory_of new later.most) (cells_of_range addr len) known (λ it.
        touch-keeps old new notes it.0 it.1.0 it.1.1 addr len (touch_outcome result) later.most (ran it.0 it.1.0 it.1.1.stands) touch-grows
        (subst (λ n. n ≤ 2 ^ 64 - 1) (told it.0 it.1.0 it.1.1.stands ∙ sym it.1.1.stands.supply.refused) fits)
        (known-memory old notes known within) (known-memory new later (known-touched forked ran) then)))

  -- it touches the memory where it is granted
  pub touch-touches : (before : PageTables) → before ≡ old.tables → (result : Result (Unit {0}) Fault) → later.most ≡ most_behind_touch before addr len notes.most result
      → later.enough ≡ notes.enough → TouchRan result → TouchReady result → OnOk result (Touches (kernel_memory old notes) (kernel_memory new later) addr len)
  touch-touches before same (Err why) noted enough ran ready = tt
  touch-touches before same (Ok done) noted enough ran ready = told-touches (memory_of old notes.most) (memory_of new later.most) notes.enough later.enough enough {E = Fault} addr len (Ok done) (
      subst (λ most. Touches (memory_of old notes.most) (memory_of new most) addr len) (sym (most-noted before same (Ok done) noted))
      (∥∥₁_elim known (Touches-prop _ _ addr len) (λ it.
      touches-seen old new notes it.0 it.1.0 it.1.1 addr len (ran it.0 it.1.0 it.1.1.stands) (ready it.0 it.1.0 it.1.1.stands))))

  -- and tells why where it is refused
  pub touch-fails : (before : PageTables) → before ≡ old.tables → (result : Result (Unit {0}) Fault) → later.most ≡ most_behind_touch before addr len notes.most result
      → later.enough ≡ notes.enough → TouchRan result → TouchReady result → IfErr result TouchLacks
      → IfErr result (TouchFails (kernel_memory old notes) (kernel_memory new later) addr len)
  touch-fails before same (Ok done) noted enough ran ready lacks = tt
  touch-fails before same (Err why) noted enough ran ready lacks = told-fails (memory_of old notes.most) (memory_of new later.most) notes.enough later.enough enough {X = Unit {0}} addr len (Err why) (
      subst (λ most. TouchFails (memory_of old notes.most) (memory_of new most) addr len why) (sym (most-noted before same (Err why) noted))
      (∥∥₁_elim known (TouchFails-prop _ _ addr len why) (λ it.
      fails-seen old new notes it.0 it.1.0 it.1.1 addr len why (ran it.0 it.1.0 it.1.1.stands) (ready it.0 it.1.0 it.1.1.stands) (lacks it.0 it.1.0 it.1.1.stands))))

-- ---- a store

-- the items of a slice of bytes
pub bytes-fit : (bytes : List ℕ) → ((i : ℕ) → Fits w8 (slice_index_or bytes i 0)) → All (λ byte. byte < 256) bytes
bytes-fit bytes fits = All-from_get_or (λ byte. byte < 256) bytes 0 (λ i inside. (fits i).fits)

module _ (old : KernelParts) (notes : KernelNotes) (addr : ℕ) (bytes : List ℕ) (known : ∥ IsKernelNoted old notes ∥₁) (ready : IsReady (memory_of old notes.most) addr (length bytes)) where
  -- pages that the memory may store to are ready in the leaves
  pub known-ready : ∥ IsReadyKernel old addr (length bytes) ∥₁
  known-ready = ∥∥₁_map known (λ it. (
    it.0,
    (
      it.1.0,
      (
        it.1.1.stands,
        λ page within. (seen-ready old.tables (sides_of it.1.0 it.1.1.stands.pages) it.1.1.stands.tables old.areas page (ready page within)).0,
      ),
    ),
  ))

  module _ (new : KernelParts) (stored : (machine : Machine) (state : KernelState) → KernelStands old machine state → KernelStands new machine (with_stored state addr bytes)) where
    -- the kernel is sound again
    pub known-stored : All (λ byte. byte < 256) bytes → ∥ IsKernelNoted new notes ∥₁
    known-stored fit = ∥∥₁_map known (λ it. (
      it.0,
      (
        with_stored it.1.0 addr bytes,
        store-sound old new notes it.0 it.1.0 it.1.1 addr bytes ready (stored it.0 it.1.0 it.1.1.stands) fit,
      ),
    ))

    -- the memory is stored to
    pub store-stores : new ≡ record old { tables = new.tables } → kernel_memory new notes ≡ after_store (kernel_memory old notes) addr bytes
    store-stores others = ap (telling notes.enough) (∥∥₁_elim known (state-prop (memory_of new notes.most) (after_store (memory_of old notes.most) addr bytes)) (λ it.
        stored-seen old it.0 it.1.0 it.1.1.stands notes.most addr bytes ready new (stored it.0 it.1.0 it.1.1.stands) others))

    -- it keeps what each call keeps
    pub store-kept : new ≡ record old { tables = new.tables } → All (λ byte. byte < 256) bytes → old.supply.out ≤ old.supply.made → new.supply.out ≤ new.supply.made
        → HasReached old notes → HasReached new notes → IsKept (kernel_memory old notes) (kernel_memory new notes) []
    store-kept others fit within then stood reached = told-kept (memory_of old notes.most) (memory_of new notes.most) notes.enough notes.enough refl [] stood reached (
        known-kept (memory_of old notes.most) (memory_of new notes.most) [] known (λ it.
        store-keeps old new notes it.0 it.1.0 it.1.1 addr bytes ready (stored it.0 it.1.0 it.1.1.stands) others
        (known-memory old notes known within) (known-memory new notes (known-stored fit) then)))
