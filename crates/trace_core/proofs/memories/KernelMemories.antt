-- What a sound kernel is as a memory: it has no more pages than frames were made, and all that holds of a memory holds of it.
use Rattle.std.proofs.Common.{◌≡◌, zero, suc, ◌+◌, ◌*◌, ◌/◌, ◌%◌, ◌<◌, ◌≤◌, Bool, true, false, List, [], ◌∷◌, ◌++◌, length, Option, Some, None, sym, ◌∙◌, ap, subst, arith, ◌⊎◌}
use Rattle.std.specs.Prelude.{is_some, IfSome}
use Rattle.std.specs.FinMap.{get, len}
use Rattle.std.specs.FinSet as set
use Rattle.std.specs.Coded.{Coded-set, coded_ℕ, coded_bool, Unit-prop, le_prop}
use Rattle.std.proofs.Math.Logic.{∥∥₁_elim}
use mathlib.Core.HLevel.{⊥_prop}
use Rattle.vm_base.specs.Places.{cell_of}
use Rattle.vm_base.specs.FlatMemory.{Area, FlatMemory, IsFlat, AreInOrder, area_of}
use Rattle.vm_base.specs.FlatStep.{is_read_only}
use Rattle.vm_base.specs.MemoryState.{MemoryState, IsMemory, own_of}
use Rattle.page_tables.specs.Standing.{TablesStandFor}
use Rattle.trace_core.specs.KernelState.{Machine, KernelState}
use Rattle.trace_core.specs.KernelStanding.{KernelParts, sides_of}
use Rattle.trace_core.specs.KernelSeen.{KernelNotes, IsSound, IsKernelNoted, parent_of, memory_of}
use Rattle.page_tables.specs.Held.{frames_of}
use Rattle.page_tables.proofs.view.TablesShown.{few-cells}
use Rattle.page_tables.proofs.view.ViewSides.{seen-pages, seen-page-used, seen-used, seen-count, seen-ready}
use Rattle.page_tables.proofs.view.PageShares.{seen-held}
use Rattle.page_tables.specs.TablesView.{pages_of}

-- ---- a kernel that is sound

-- what a kernel has as a memory that stands for this state on this machine
pub record IsSeenAs (memory : MemoryState) (machine : Machine) (state : KernelState) : Type 0 where
  pub mem : memory.mem ≡ state.world.parent
  pub refused : memory.refused ≡ state.world.refused
  pub room : memory.room ≡ machine.frames
  pub slots : memory.slots ≡ machine.slots

module _ (parts : KernelParts) (notes : KernelNotes) (machine : Machine) (state : KernelState) (sound : IsSound parts notes machine state) where
  -- the parent has no more pages than frames were made
  pub sound-room : parts.supply.out ≤ parts.supply.made → len state.world.parent.present ≤ machine.frames
  sound-room within =
      let held : len state.world.parent.present ≤ frames_of parts.tables = seen-held parts.tables (sides_of state sound.stands.pages)
      sound.stands.tables in
      omega (arith, held, within, sound.stands.out, sound.stands.supply.frames)

  pub seen-parent : parent_of parts ≡ state.world.parent
  seen-parent =
      let areas : parts.areas ≡ state.world.parent.areas = sym sound.stands.areas in
      let present : pages_of parts.tables ≡ state.world.parent.present = seen-pages parts.tables (sides_of state sound.stands.pages) sound.stands.tables in
      λ i. record { areas = areas i; present = present i }

  pub seen-memory : IsSeenAs (memory_of parts notes.most) machine state
  seen-memory = record {
    mem = seen-parent;
    refused = sound.stands.supply.refused;
    room = sound.stands.supply.frames;
    slots = sound.stands.slots;
  }

  -- a sound kernel is a memory
  pub sound-memory : parts.supply.out ≤ parts.supply.made → IsMemory (memory_of parts notes.most)
  sound-memory within =
      let tables : TablesStandFor parts.tables (sides_of state sound.stands.pages) = sound.stands.tables in
      let pages : pages_of parts.tables ≡ state.world.parent.present = seen-pages parts.tables (sides_of state sound.stands.pages) tables in
      record {
        flat = subst IsFlat (sym seen-parent) sound.flat;
        room = subst (λ present. len present ≤ parts.supply.made) (sym pages) (subst (λ n. len state.world.parent.present ≤ n) (sym sound.stands.supply.frames) (sound-room within));
        own = subst (λ memory. own_of memory ≤ notes.most) (sym seen-parent) sound.own;
        used = λ page there. seen-used parts.tables (sides_of state sound.stands.pages) tables (cell_of page) ∙ seen-page-used parts.tables (sides_of state sound.stands.pages) tables page (ap (λ present. is_some (get present page)) (sym pages) ∙ there);
        slots = omega (arith, seen-count parts.tables (sides_of state sound.stands.pages) tables, few-cells parts.tables (sides_of state sound.stands.pages) tables);
        reached = λ some. tt;
        present = λ page ready. ap (λ present. is_some (get present page)) pages ∙ (seen-ready parts.tables (sides_of state sound.stands.pages) tables parts.areas page ready).1;
        writable = λ page ready. (seen-ready parts.tables (sides_of state sound.stands.pages) tables parts.areas page ready).2;
      }

-- ---- what holds of a memory has one proof at most

AreInOrder-prop : (areas : List Area) → IsProp (AreInOrder areas)
AreInOrder-prop [] = Unit-prop
AreInOrder-prop (a ∷ []) = le_prop
AreInOrder-prop (a ∷ b ∷ areas) = λ f g i. (
  le_prop f.0 g.0 i,
  le_prop f.1 g.1 i,
  λ touch alike. ⊥_prop (f.2 touch alike) (g.2 touch alike) i,
  AreInOrder-prop (b ∷ areas) f.3 g.3 i,
)

test-prop : (a b : Bool) → IsProp (a ≡ b)
test-prop a b = Coded-set coded_bool a b

IsFlat-prop : (memory : FlatMemory) → IsProp (IsFlat memory)
IsFlat-prop memory a b = λ i. record {
  in_order = AreInOrder-prop memory.areas a.in_order b.in_order i;
  few = le_prop a.few b.few i;
  bytes = λ page bytes there k d within. le_prop (a.bytes page bytes there k d within) (b.bytes page bytes there k d within) i;
  whole = λ page bytes there. Coded-set coded_ℕ (length bytes) 4096 (a.whole page bytes there) (b.whole page bytes there) i;
  low = λ page inside. le_prop (a.low page inside) (b.low page inside) i;
  in_areas = λ page there. test-prop (is_some (area_of memory.areas page)) true (a.in_areas page there) (b.in_areas page there) i;
}

-- where something holds of what is told
pub if-some-prop : {X : Type 0} (P : X → Type 0) (o : Option X) → ((x : X) → IsProp (P x)) → IsProp (IfSome o P)
if-some-prop P None each = Unit-prop
if-some-prop P (Some x) each = each x

pub IsMemory-prop : (state : MemoryState) → IsProp (IsMemory state)
IsMemory-prop state a b = λ i. record {
  flat = IsFlat-prop state.mem a.flat b.flat i;
  room = le_prop a.room b.room i;
  own = le_prop a.own b.own i;
  used = λ page there. test-prop (set.contains state.used (cell_of page)) true (a.used page there) (b.used page there) i;
  slots = le_prop a.slots b.slots i;
  reached = λ some. if-some-prop (λ enough. enough ≤ state.most) state.enough (λ enough. le_prop) (a.reached some) (b.reached some) i;
  present = λ page ready. test-prop (is_some (get state.mem.present page)) true (a.present page ready) (b.present page ready) i;
  writable = λ page ready. test-prop (is_read_only (area_of state.mem.areas page)) false (a.writable page ready) (b.writable page ready) i;
}

-- a kernel that is sound for some state is a memory
pub known-memory : (parts : KernelParts) (notes : KernelNotes) → ∥ IsKernelNoted parts notes ∥₁ → parts.supply.out ≤ parts.supply.made → IsMemory (memory_of parts notes.most)
known-memory parts notes known within = ∥∥₁_elim known (IsMemory-prop (memory_of parts notes.most)) (λ it. sound-memory parts notes it.0 it.1.0 it.1.1 within)
