-- The clauses on a memory and on a process have one proof at most, so that a fact whose proof is not told gives them.
use Rattle.std.proofs.Common.{◌≡◌, ℕ, ◌≤◌, List, [], Option, Result, refl, sym, ◌∙◌, inl, inr, ◌⊎◌}
use Rattle.std.specs.Prelude.{Bool, IsTrue, true, false, ◌==◌, if◌then◌else◌, is_ok, is_some}
use Rattle.std.specs.FinMap.{get}
use Rattle.std.specs.FinSet as set
use Rattle.std.specs.List.{list_any}
use Rattle.std.specs.Coded.{Coded, Coded-set, code_by, coded×, coded_ℕ, coded_bool, coded_list, coded_option, coded_result, ×_prop, le_prop}
use Rattle.std.proofs.lemmas.Bool.{cases_Bool, false≢true}
use Rattle.std.proofs.Math.Logic.{∥∥₁_elim}
use mathlib.Core.HLevel.{⊥_prop, ×₃_prop}
use Rattle.vm_base.specs.declared.faults.Fault.{Fault}
use Rattle.vm_base.specs.declared.faults.Fault.TheVariants.{NoArea, NoWrite, NoFrame, Overlap, AreasFull, CellsFull}
use Rattle.vm_base.specs.Codes.{flat_memory_code}
use Rattle.vm_base.specs.FlatMemory.{FlatMemory}
use Rattle.vm_base.specs.MemoryState.{MemoryState, Numbers, IsIn, IsListed, IsMemory, IsKept, KeepsReady}
use Rattle.vm_base.specs.MemoryCalls.{Touches, LacksFrame, TouchFails, Refuses, Maps, Changes, touch_answer}
use Rattle.vm_base.specs.declared.faults.ForkFault.{ForkFault}
use Rattle.vm_base.specs.declared.faults.ForkFault.TheVariants.{NoFrame as FrameLacking, TooMany, NumbersSpent}
use Rattle.vm_base.specs.ProcessState.{Children, AreChildren, MayFork, ForkFails, LeavesMemory, Reaps, LeavesAtReap}
use Rattle.trace_core.proofs.memories.KernelMemories.{IsMemory-prop}

-- ---- memories and faults told apart

-- a set of numbers, by the list of its members
abbrev pub numbers_code : Coded Numbers
numbers_code = set.code coded_ℕ

-- a memory and what stands beside it, field by field
abbrev pub memory_state_code : Coded MemoryState
memory_state_code =
    code_by (FlatMemory × (ℕ × (ℕ × (ℕ × (Numbers × (Numbers × (ℕ × Option ℕ)))))))
    (coded× flat_memory_code (coded× coded_ℕ (coded× coded_ℕ (coded× coded_ℕ (coded× numbers_code (coded× numbers_code (coded× coded_ℕ (coded_option coded_ℕ))))))))
    (λ s. (s.mem, (s.refused, (s.room, (s.slots, (s.used, (s.ready, (s.most, s.enough))))))))
    (λ p. record {
      mem = p.0;
      refused = p.1.0;
      room = p.1.1.0;
      slots = p.1.1.1.0;
      used = p.1.1.1.1.0;
      ready = p.1.1.1.1.1.0;
      most = p.1.1.1.1.1.1.0;
      enough = p.1.1.1.1.1.1.1;
    })
    (λ _. refl)

-- a fault as three numbers
abbrev pub fault_numbers : Fault → ℕ × (ℕ × ℕ)
fault_numbers (NoArea page) = (0, (page, 0))
fault_numbers (NoWrite page) = (1, (page, 0))
fault_numbers (NoFrame at page) = (2, (page, at))
fault_numbers (Overlap page) = (3, (page, 0))
fault_numbers AreasFull = (4, (0, 0))
fault_numbers CellsFull = (5, (0, 0))

-- the fault of three numbers
abbrev pub fault_of_numbers : ℕ × (ℕ × ℕ) → Fault
fault_of_numbers p =
    if p.0 == 0 then NoArea p.1.0
    else if p.0 == 1 then NoWrite p.1.0
    else if p.0 == 2 then NoFrame p.1.1 p.1.0
    else if p.0 == 3 then Overlap p.1.0
    else if p.0 == 4 then AreasFull
    else CellsFull

pub fault_again : (fault : Fault) → fault_of_numbers (fault_numbers fault) ≡ fault
fault_again (NoArea page) = refl
fault_again (NoWrite page) = refl
fault_again (NoFrame at page) = refl
fault_again (Overlap page) = refl
fault_again AreasFull = refl
fault_again CellsFull = refl

abbrev pub fault_code : Coded Fault
fault_code = code_by (ℕ × (ℕ × ℕ)) (coded× coded_ℕ (coded× coded_ℕ coded_ℕ)) fault_numbers fault_of_numbers fault_again

-- what a memory answers
abbrev pub answer_code : Coded (Result FlatMemory Fault)
answer_code = coded_result flat_memory_code fault_code

-- ---- equations

pub number-prop : (m n : ℕ) → IsProp (m ≡ n)
number-prop m n = Coded-set coded_ℕ m n

pub test-prop : (a b : Bool) → IsProp (a ≡ b)
test-prop a b = Coded-set coded_bool a b

pub option-prop : (a b : Option ℕ) → IsProp (a ≡ b)
option-prop a b = Coded-set (coded_option coded_ℕ) a b

pub flat-prop : (a b : FlatMemory) → IsProp (a ≡ b)
flat-prop a b = Coded-set flat_memory_code a b

pub state-prop : (a b : MemoryState) → IsProp (a ≡ b)
state-prop a b = Coded-set memory_state_code a b

pub answer-prop : (a b : Result FlatMemory Fault) → IsProp (a ≡ b)
answer-prop a b = Coded-set answer_code a b

-- ---- the calls on a memory

pub KeepsReady-prop : (old new : MemoryState) → IsProp (KeepsReady old new)
KeepsReady-prop old new a b = λ i. λ page ready. test-prop (set.contains new.ready page) true (a page ready) (b page ready) i

pub Touches-prop : (old new : MemoryState) (address n : ℕ) → IsProp (Touches old new address n)
Touches-prop old new address n a b = λ i. record {
  mem = answer-prop _ _ a.mem b.mem i;
  most = number-prop _ _ a.most b.most i;
  ready = λ page within. test-prop (set.contains new.ready page) true (a.ready page within) (b.ready page within) i;
  keeps = KeepsReady-prop old new a.keeps b.keeps i;
}

pub LacksFrame-prop : (old new : MemoryState) (address n at page : ℕ) → IsProp (LacksFrame old new address n at page)
LacksFrame-prop old new address n at page a b = λ i. record {
  due = test-prop (is_ok (touch_answer old address n)) true a.due b.due i;
  rose = le_prop a.rose b.rose i;
  told = number-prop at new.refused a.told b.told i;
  range = ×_prop le_prop le_prop a.range b.range i;
  absent = test-prop (is_some (get old.mem.present page)) false a.absent b.absent i;
  mem = flat-prop new.mem old.mem a.mem b.mem i;
  most = number-prop _ _ a.most b.most i;
  keeps = KeepsReady-prop old new a.keeps b.keeps i;
}

pub Refuses-prop : (old new : MemoryState) (answer : Result FlatMemory Fault) (fault : Fault) → IsProp (Refuses old new answer fault)
Refuses-prop old new answer fault = ×_prop (answer-prop _ _) (state-prop new old)

pub TouchFails-prop : (old new : MemoryState) (address n : ℕ) (fault : Fault) → IsProp (TouchFails old new address n fault)
TouchFails-prop old new address n (NoFrame at page) = LacksFrame-prop old new address n at page
TouchFails-prop old new address n (NoArea page) = Refuses-prop old new (touch_answer old address n) (NoArea page)
TouchFails-prop old new address n (NoWrite page) = Refuses-prop old new (touch_answer old address n) (NoWrite page)
TouchFails-prop old new address n (Overlap page) = ⊥_prop
TouchFails-prop old new address n AreasFull = ⊥_prop
TouchFails-prop old new address n CellsFull = Refuses-prop old new (touch_answer old address n) CellsFull

pub Maps-prop : (old new : MemoryState) (answer : Result FlatMemory Fault) → IsProp (Maps old new answer)
Maps-prop old new answer = ×_prop (answer-prop _ _) (state-prop _ _)

pub Changes-prop : (old new : MemoryState) (answer : Result FlatMemory Fault) → IsProp (Changes old new answer)
Changes-prop old new answer = ×_prop (answer-prop _ _) (number-prop _ _)

-- ---- what each call keeps

-- what each call on a memory keeps, with one proof at most: a cell that used no slot is one of those that may be given one
pub record IsPlainlyKept (old new : MemoryState) (cells : List ℕ) : Type 0 where
  pub before : IsMemory old
  pub after : IsMemory new
  pub room : new.room ≡ old.room
  pub slots : new.slots ≡ old.slots
  pub used : (cell : ℕ) → IsIn cell new.used → set.contains old.used cell ≡ false → IsListed cell cells
  pub enough : new.enough ≡ old.enough
  pub counted : old.refused ≤ new.refused
  pub grown : old.most ≤ new.most

pub IsPlainlyKept-prop : (old new : MemoryState) (cells : List ℕ) → IsProp (IsPlainlyKept old new cells)
IsPlainlyKept-prop old new cells a b = λ i. record {
  before = IsMemory-prop old a.before b.before i;
  after = IsMemory-prop new a.after b.after i;
  room = number-prop _ _ a.room b.room i;
  slots = number-prop _ _ a.slots b.slots i;
  used = λ cell now unused. test-prop (list_any (λ other. other == cell) cells) true (a.used cell now unused) (b.used cell now unused) i;
  enough = option-prop _ _ a.enough b.enough i;
  counted = le_prop a.counted b.counted i;
  grown = le_prop a.grown b.grown i;
}

-- a cell that uses a slot did so before, or is one of these: which of the two is told by whether it did before
pub used-from : (old new : Numbers) (cells : List ℕ) → ((cell : ℕ) → IsIn cell new → set.contains old cell ≡ false → IsListed cell cells)
    → (cell : ℕ) → IsIn cell new → IsIn cell old ⊎ IsListed cell cells
used-from old new cells given cell now = elim (cases_Bool (set.contains old cell)) [
  | inl before ↦ inl before
  | inr unused ↦ inr (given cell now unused)
]

pub kept-from : (old new : MemoryState) (cells : List ℕ) → IsPlainlyKept old new cells → IsKept old new cells
kept-from old new cells it = record {
  before = it.before;
  after = it.after;
  room = it.room;
  slots = it.slots;
  used = used-from old.used new.used cells it.used;
  enough = it.enough;
  counted = it.counted;
  grown = it.grown;
}

-- the other side of a sum whose first does not hold
other-side : (a : Bool) {B : Type 0} → a ≡ false → IsTrue a ⊎ B → B
other-side a apart (inl holds) = absurd (false≢true (sym apart ∙ holds))
other-side a apart (inr it) = it

pub plainly-kept : (old new : MemoryState) (cells : List ℕ) → IsKept old new cells → IsPlainlyKept old new cells
plainly-kept old new cells it = record {
  before = it.before;
  after = it.after;
  room = it.room;
  slots = it.slots;
  used = λ cell now unused. other-side (set.contains old.used cell) unused (it.used cell now);
  enough = it.enough;
  counted = it.counted;
  grown = it.grown;
}

-- what is kept is given by a fact whose proof is not told
pub known-kept : {A : Type 0} (old new : MemoryState) (cells : List ℕ) → ∥ A ∥₁ → (A → IsKept old new cells) → IsKept old new cells
known-kept old new cells known gives =
    kept-from old new cells (∥∥₁_elim known (IsPlainlyKept-prop old new cells) (λ it. plainly-kept old new cells (gives it)))

-- where no cell may be given a slot, one side of the sum never holds
pub IsKept-prop : (old new : MemoryState) → IsProp (IsKept old new [])
IsKept-prop old new a b = λ i. record {
  before = IsMemory-prop old a.before b.before i;
  after = IsMemory-prop new a.after b.after i;
  room = number-prop _ _ a.room b.room i;
  slots = number-prop _ _ a.slots b.slots i;
  used = λ cell now. one-side (set.contains old.used cell) (a.used cell now) (b.used cell now) i;
  enough = option-prop _ _ a.enough b.enough i;
  counted = le_prop a.counted b.counted i;
  grown = le_prop a.grown b.grown i;
}
  where
    one-side : (it : Bool) → IsProp (IsTrue it ⊎ IsTrue false)
    one-side it (inl x) (inl y) = λ i. inl (test-prop it true x y i)
    one-side it (inr x) y = absurd (false≢true x)
    one-side it (inl x) (inr y) = absurd (false≢true y)

-- ---- the calls on children

-- the children of a process, field by field
abbrev pub children_code : Coded Children
children_code =
    code_by (List ℕ × (ℕ × (ℕ × ℕ))) (coded× (coded_list coded_ℕ) (coded× coded_ℕ (coded× coded_ℕ coded_ℕ)))
    (λ c. (c.numbers, (c.live, (c.last, c.limit)))) (λ p. record { numbers = p.0; live = p.1.0; last = p.1.1.0; limit = p.1.1.1 }) (λ _. refl)

pub list-prop : (a b : List ℕ) → IsProp (a ≡ b)
list-prop a b = Coded-set (coded_list coded_ℕ) a b

pub children-prop : (a b : Children) → IsProp (a ≡ b)
children-prop a b = Coded-set children_code a b

pub MayFork-prop : (children : Children) → IsProp (MayFork children)
MayFork-prop children a b = λ i. record { place = le_prop a.place b.place i; number = le_prop a.number b.number i }

pub AreChildren-prop : (children : Children) → IsProp (AreChildren children)
AreChildren-prop children a b = λ i. record {
  count = number-prop _ _ a.count b.count i;
  few = le_prop a.few b.few i;
  last = le_prop a.last b.last i;
  given = λ k d within. ×_prop le_prop le_prop (a.given k d within) (b.given k d within) i;
  once = Coded-set (coded_list coded_ℕ) _ _ a.once b.once i;
}

pub ForkFails-prop : (children : Children) (old new : MemoryState) (fault : ForkFault) → IsProp (ForkFails children old new fault)
ForkFails-prop children old new (FrameLacking at) = ×₃_prop (MayFork-prop children) (number-prop _ _) (number-prop _ _)
ForkFails-prop children old new TooMany = ×_prop (number-prop _ _) (state-prop new old)
ForkFails-prop children old new NumbersSpent = ×₃_prop (number-prop _ _) le_prop (state-prop new old)

pub LeavesMemory-prop : (old new : MemoryState) → IsProp (LeavesMemory old new)
LeavesMemory-prop old new a b = λ i. record { mem = flat-prop new.mem old.mem a.mem b.mem i; most = number-prop _ _ a.most b.most i }

pub Reaps-prop : (old new : Children) (number : ℕ) → IsProp (Reaps old new number)
Reaps-prop old new number a b = λ i. record {
  numbers = list-prop _ _ a.numbers b.numbers i;
  live = number-prop _ _ a.live b.live i;
  last = number-prop _ _ a.last b.last i;
  limit = number-prop _ _ a.limit b.limit i;
}

pub LeavesAtReap-prop : (old new : MemoryState) → IsProp (LeavesAtReap old new)
LeavesAtReap-prop old new a b = λ i. record {
  mem = flat-prop new.mem old.mem a.mem b.mem i;
  most = number-prop _ _ a.most b.most i;
  refused = number-prop _ _ a.refused b.refused i;
  keeps = KeepsReady-prop old new a.keeps b.keeps i;
}
