-- What a call does to a memory that does not tell how many frames are enough, it does to one that tells it.
use Rattle.std.proofs.Common.{◌≡◌, ℕ, ◌<◌, ◌≤◌, List, Option, Some, None, Result, Ok, Err, refl, sym, ap, subst}
use Rattle.std.specs.Prelude.{OnOk, IfErr, IfSome}
use Rattle.std.specs.Option.{ForSome}
use Rattle.vm_base.specs.declared.faults.Fault.{Fault}
use Rattle.vm_base.specs.declared.faults.Fault.TheVariants as fault
use Rattle.vm_base.specs.declared.faults.ForkFault.{ForkFault}
use Rattle.vm_base.specs.declared.faults.ForkFault.TheVariants.{NoFrame, TooMany, NumbersSpent}
use Rattle.vm_base.specs.FlatMemory.{FlatMemory}
use Rattle.vm_base.specs.MemoryState.{MemoryState, IsMemory, IsKept}
use Rattle.vm_base.specs.MemoryCalls.{Touches, TouchFails, Refuses, Maps, Changes, touch_answer}
use Rattle.vm_base.specs.ProcessState.{Children, ForkFails, LeavesMemory, LeavesAtReap}

-- the memory, which tells this
abbrev pub telling : Option ℕ → MemoryState → MemoryState
telling enough memory = record memory { enough = enough }

-- where it is told that so many are enough, this many are no fewer
pub if-told : (enough : Option ℕ) (P : ℕ → Type 0) → ForSome enough P → IfSome enough P
if-told None P each = tt
if-told (Some n) P each = each n refl

-- once a request was refused, as many frames as are told to be enough were had or asked for
abbrev pub ToldReached : Option ℕ → MemoryState → Type 0
ToldReached enough memory = 0 < memory.refused → ForSome enough (λ enough. enough ≤ memory.most)

pub told-memory : (enough : Option ℕ) (memory : MemoryState) → ToldReached enough memory → IsMemory memory → IsMemory (telling enough memory)
told-memory enough memory reached it = record {
  flat = it.flat;
  room = it.room;
  own = it.own;
  used = it.used;
  slots = it.slots;
  present = it.present;
  writable = it.writable;
  reached = λ some. if-told enough (λ enough. enough ≤ memory.most) (reached some);
}

module _ (old new : MemoryState) (before after : Option ℕ) (same : after ≡ before) where
  -- in terms of the one that was told before
  as-told : (P : MemoryState → Type 0) → P (telling before new) → P (telling after new)
  as-told P it = subst (λ enough. P (telling enough new)) (sym same) it

  touches-told : (address n : ℕ) → Touches old new address n → Touches (telling before old) (telling after new) address n
  touches-told address n it = record { mem = it.mem; most = it.most; ready = it.ready; keeps = it.keeps }

  refuses-told : {X : Type 0} (answer : Result X Fault) (why : Fault) → Refuses old new answer why → Refuses (telling before old) (telling after new) answer why
  refuses-told answer why it = as-told (λ memory. Refuses (telling before old) memory answer why) (it.0, ap (telling before) it.1)

  fails-told : (address n : ℕ) (why : Fault) → TouchFails old new address n why → TouchFails (telling before old) (telling after new) address n why
  fails-told address n (fault.NoFrame at page) it = record {
    due = it.due;
    rose = it.rose;
    told = it.told;
    range = it.range;
    absent = it.absent;
    mem = it.mem;
    most = it.most;
    keeps = it.keeps;
  }
  fails-told address n (fault.NoArea page) it = refuses-told (touch_answer old address n) (fault.NoArea page) it
  fails-told address n (fault.NoWrite page) it = refuses-told (touch_answer old address n) (fault.NoWrite page) it
  fails-told address n (fault.Overlap page) it = it
  fails-told address n fault.AreasFull it = it
  fails-told address n fault.CellsFull it = refuses-told (touch_answer old address n) fault.CellsFull it

  -- by the answer of a call
  pub told-touches : {X E : Type 0} (address n : ℕ) (result : Result X E) → OnOk result (Touches old new address n) → OnOk result (Touches (telling before old) (telling after new) address n)
  told-touches address n (Ok done) it = touches-told address n it
  told-touches address n (Err why) it = tt

  pub told-fails : {X : Type 0} (address n : ℕ) (result : Result X Fault) → IfErr result (TouchFails old new address n) → IfErr result (TouchFails (telling before old) (telling after new) address n)
  told-fails address n (Ok done) it = tt
  told-fails address n (Err why) it = fails-told address n why it

  pub told-maps : {X E : Type 0} (answer : Result FlatMemory Fault) (result : Result X E) → OnOk result (Maps old new answer) → OnOk result (Maps (telling before old) (telling after new) answer)
  told-maps answer (Ok done) it = as-told (λ memory. Maps (telling before old) memory answer) (it.0, ap (telling before) it.1)
  told-maps answer (Err why) it = tt

  pub told-changes : {X E : Type 0} (answer : Result FlatMemory Fault) (result : Result X E) → OnOk result (Changes old new answer) → OnOk result (Changes (telling before old) (telling after new) answer)
  told-changes answer (Ok done) it = it
  told-changes answer (Err why) it = tt

  pub told-refuses : {X Y : Type 0} (answer : Result Y Fault) (result : Result X Fault) → IfErr result (Refuses old new answer) → IfErr result (Refuses (telling before old) (telling after new) answer)
  told-refuses answer (Ok done) it = tt
  told-refuses answer (Err why) it = refuses-told answer why it

  pub told-kept : (cells : List ℕ) → ToldReached before old → ToldReached after new → IsKept old new cells → IsKept (telling before old) (telling after new) cells
  told-kept cells stood reached it = record {
    before = told-memory before old stood it.before;
    after = told-memory after new reached it.after;
    room = it.room;
    slots = it.slots;
    used = it.used;
    enough = same;
    counted = it.counted;
    grown = it.grown;
  }

  pub told-leaves : LeavesMemory old new → LeavesMemory (telling before old) (telling after new)
  told-leaves it = record { mem = it.mem; most = it.most }

  pub told-reap : LeavesAtReap old new → LeavesAtReap (telling before old) (telling after new)
  told-reap it = record { mem = it.mem; most = it.most; refused = it.refused; keeps = it.keeps }

  pub told-fork : (children : Children) (why : ForkFault) → ForkFails children old new why → ForkFails children (telling before old) (telling after new) why
  told-fork children (NoFrame at) it = it
  told-fork children TooMany it = (it.0, as-told (λ memory. memory ≡ telling before old) (ap (telling before) it.1))
  told-fork children NumbersSpent it = (it.0, it.1, as-told (λ memory. memory ≡ telling before old) (ap (telling before) it.2))
