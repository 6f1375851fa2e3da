-- The kernel as the house of its snapshot: what stands beside a snapshot tells all that the kernel tells of itself.
use Rattle.std.proofs.Common.{◌≡◌, ℕ, Option, Some, None, inl, inr, refl, ap, eqb, arith}
use Rattle.std.specs.FinMap.{get}
use Rattle.vm_base.specs.Counts.{next_count}
use Rattle.std.specs.Prelude.{◌<◌, ◌≤◌, ◌⊎◌, Bool, true, false, IsTrue, IsSome, ◌==◌, ◌||◌, ◌↔◌}
use Rattle.std.proofs.Math.Logic.{∥∥₁_map}
use Rattle.std.proofs.lemmas.Bool.{false≢true}
use Rattle.std.proofs.lemmas.Bool.Decides.{nat_tests}
use Rattle.vm_base.specs.FlatMemory.{cells_of}
use Rattle.vm_base.specs.MemoryState.{IsIn, IsListed}
use Rattle.kernel_meaning.specs.Leaves.{holds_number}
use Rattle.trace_core.specs.declared.parts.SnapshotAreas.{SnapshotAreas}
use Rattle.trace_core.specs.declared.process.SoloChild.{SoloChild}
use Rattle.trace_core.specs.KernelStanding.{KernelParts, kept_number, copies_refused_in}
use Rattle.trace_core.specs.KernelWent.{KeepsChildren, AreGiven}
use Rattle.vm_base.specs.SnapshotState.{GoesOn}
use Rattle.trace_core.specs.KernelSeen.{KernelNotes, BesideChild, live_numbers, kernel_memory, kept_in, nest_of, AreSlotsUsed, AreKeptUsed}

-- it tells the kernel's memory
pub same_memory : {one other : BesideChild} → one ≡ other → one.memory ≡ other.memory
same_memory same = ap (λ beside. beside.memory) same

-- and what stands beside that
pub same_beside : {one other : BesideChild} → one ≡ other → one.beside ≡ other.beside
same_beside same = ap (λ beside. beside.beside) same

-- and the number of the snapshot, whatever tells its home
pub same_child : {one other : BesideChild} → one ≡ other → (one.number ≡ other.number) × ◌≡◌ {A = Unit {0}} tt tt
same_child same = (ap (λ beside. beside.number) same, refl)

-- a slot is used by a cell of the kernel or of a snapshot that lives
pub used_there : (parts : KernelParts) (notes : KernelNotes) → AreSlotsUsed parts notes → (cell : ℕ) → IsIn cell (kernel_memory parts notes).used
    → ∥ IsListed cell (cells_of (kernel_memory parts notes).mem)
    ⊎ ((child : SoloChild) × (IsTrue (holds_number (kept_number parts.snapshot) child.number) × IsListed cell (cells_of (nest_of parts notes child.number).mem))) ∥₁
used_there parts notes used cell is = ∥∥₁_map (used cell is) side
  where
    itself : (n : ℕ) → eqb n n ≡ true
    itself n = grind (arith, nat_tests)

    number_of : (snapshot : Option SnapshotAreas) → IsSome snapshot → (n : ℕ) × IsTrue (holds_number (kept_number snapshot) n)
    number_of None lives = absurd (false≢true lives)
    number_of (Some kept) lives = (kept.number, itself kept.number)

    side : IsListed cell (cells_of (kernel_memory parts notes).mem) ⊎ (IsSome parts.snapshot × IsListed cell (cells_of (kept_in parts.snapshot notes.forked)))
        → IsListed cell (cells_of (kernel_memory parts notes).mem)
        ⊎ ((child : SoloChild) × (IsTrue (holds_number (kept_number parts.snapshot) child.number) × IsListed cell (cells_of (nest_of parts notes child.number).mem)))
    side (inl parent) = inl parent
    side (inr kept) = let its = number_of parts.snapshot kept.0 in inr (record { number = its.0 }, (its.1, kept.1))

-- a snapshot lives where its number is listed, whatever tells its home
pub lives_numbered : (snapshot : Option SnapshotAreas) (n : ℕ) → IsTrue (holds_number (kept_number snapshot) n) ↔ (IsListed n (live_numbers snapshot) × ◌≡◌ {A = Unit {0}} tt tt)
lives_numbered None n = (λ held. absurd (false≢true held), λ listed. absurd (false≢true listed.0))
lives_numbered (Some kept) n = (λ held. (listed (kept.number == n) held, refl), λ its. held (kept.number == n) its.0)
  where
    listed : (b : Bool) → b ≡ true → (b || false) ≡ true
    listed true e = refl
    listed false e = e

    held : (b : Bool) → (b || false) ≡ true → b ≡ true
    held true e = refl
    held false e = e

-- what is told of a snapshot that lived and still lives goes on
pub went_child : (old new : KernelParts) (notes later : KernelNotes) → AreGiven old → KeepsChildren old notes new later → (n : ℕ)
    → IsTrue (holds_number (kept_number old.snapshot) n) → IsTrue (holds_number (kept_number new.snapshot) n) → GoesOn (nest_of old notes n) (nest_of new later n)
went_child old new notes later given keeps n lived lives =
    keeps.goes_on n (given n (((lives_numbered old.snapshot n).0 lived).0)) ((lives_numbered new.snapshot n).0 lives).0

-- no copy was refused
pub none_refused : {P : Type 0} (parts : KernelParts) → copies_refused_in parts.snapshot ≡ 0 → 0 < copies_refused_in parts.snapshot → P
none_refused parts none some = absurd (omega (arith, none, some))

-- what a snapshot that lives has lost since was lost at a count above the one before
pub lost_since : (old new : KernelParts) (notes later : KernelNotes) → AreGiven old → KeepsChildren old notes new later → (n : ℕ)
    → IsTrue (holds_number (kept_number old.snapshot) n) → IsTrue (holds_number (kept_number new.snapshot) n) → (cell at : ℕ)
    → get (nest_of old notes n).found cell ≡ None → get (nest_of new later n).found cell ≡ Some at → next_count old.supply.refused ≤ at
lost_since old new notes later given keeps n lived lives cell at before there =
    keeps.lost n (given n (((lives_numbered old.snapshot n).0 lived).0)) ((lives_numbered new.snapshot n).0 lives).0 cell at before there

-- each of its cells uses a slot
pub used_kept : (parts : KernelParts) (notes : KernelNotes) → AreKeptUsed parts notes → (n : ℕ) → IsTrue (holds_number (kept_number parts.snapshot) n) → (cell : ℕ)
    → IsListed cell (cells_of (nest_of parts notes n).mem) → IsIn cell (kernel_memory parts notes).used
used_kept parts notes housed n lives cell listed = housed (some parts.snapshot lives) cell listed
  where
    some : (snapshot : Option SnapshotAreas) → IsTrue (holds_number (kept_number snapshot) n) → IsSome snapshot
    some None lives = absurd (false≢true lives)
    some (Some kept) lives = refl
