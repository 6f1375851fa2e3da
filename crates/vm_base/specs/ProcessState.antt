-- What is known of a process beside its memory: the children that live, and the numbers given out.
use Rattle.std.specs.Prelude.{◌≡◌, ℕ, ◌+◌, ◌≤◌, ◌<◌, ◌==◌, not, ◌⊎◌, List, [], ◌∷◌, ◌++◌, length, filter, All}
use Rattle.std.specs.Ordering.{nat_cmp}
use Rattle.std.specs.FinMap.{FinMap, len}
use Rattle.vm_base.specs.declared.faults.ForkFault.{ForkFault}
use Rattle.vm_base.specs.declared.faults.ForkFault.TheVariants.{NoFrame, TooMany, NumbersSpent}
use Rattle.vm_base.specs.Counts.{next_count}
use Rattle.vm_base.specs.Places.{distinct}
use Rattle.vm_base.specs.MemoryState.{MemoryState, KeepsReady}

-- the children of a process
pub record Children : Type 0 where
  -- the numbers of those that live
  pub numbers : List ℕ
  -- how many live
  pub live : ℕ
  -- the number given out last
  pub last : ℕ
  -- how many may live at a time
  pub limit : ℕ

-- the cells that a snapshot was found to have lost, each with the count at which it was lost
abbrev pub Found : Type 0
Found = FinMap nat_cmp ℕ

-- what is left of a child that has ended
pub record Remains : Type 0 where
  pub number : ℕ
  -- the cells that it was found to have lost
  pub found : Found
  -- its refused copies
  pub refused : ℕ

-- what holds of the children at each moment
pub record AreChildren (children : Children) : Type 0 where
  pub count : children.live ≡ length children.numbers
  pub few : children.live ≤ children.limit
  pub last : children.last ≤ 4294967295
  pub given : All (λ n. (0 < n) × (n ≤ children.last)) children.numbers
  pub once : distinct children.numbers ≡ children.numbers

-- a fork may be tried: another child may live, and a number is left
pub record MayFork (children : Children) : Type 0 where
  pub place : children.live < children.limit
  pub number : children.last < 4294967295

-- the children after a fork
abbrev pub after_fork : Children → Children
after_fork children = record children {
  numbers = children.numbers ++ (children.last + 1) ∷ [];
  live = children.live + 1;
  last = children.last + 1;
}

-- why a fork was refused: no frame, where the count rose by one, to `at`; too many children; or no number left
abbrev pub ForkFails : Children → MemoryState → MemoryState → ForkFault → Type 0
ForkFails children old new (NoFrame at) = MayFork children × (new.refused ≡ next_count old.refused) × (at ≡ new.refused)
ForkFails children old new TooMany = (children.live ≡ children.limit) × (new ≡ old)
ForkFails children old new NumbersSpent = (children.last ≡ 4294967295) × (children.live < children.limit) × (new ≡ old)

-- a call on children alone leaves the memory
pub record LeavesMemory (old new : MemoryState) : Type 0 where
  pub mem : new.mem ≡ old.mem
  pub most : new.most ≡ old.most

-- the child of this number lives no more
pub record Reaps (old new : Children) (number : ℕ) : Type 0 where
  pub numbers : new.numbers ≡ filter (λ n. not (n == number)) old.numbers
  pub live : new.live + 1 ≡ old.live
  pub last : new.last ≡ old.last
  pub limit : new.limit ≡ old.limit

-- what reaping leaves of the memory
pub record LeavesAtReap (old new : MemoryState) : Type 0 where
  pub mem : new.mem ≡ old.mem
  pub most : new.most ≡ old.most
  pub refused : new.refused ≡ old.refused
  pub keeps : KeepsReady old new

-- a copy of the child was refused, or it was found to have lost a cell
abbrev pub HadRefusal : Remains → Type 0
HadRefusal gone = (0 < gone.refused) ⊎ (0 < len gone.found)
