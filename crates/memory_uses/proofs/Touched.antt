-- What touches and refused touches leave of a memory.
use Rattle.std.proofs.Common.{◌≡◌, ℕ, ◌≤◌, max, Bool, true, false, List, [], ◌∷◌, length, Some, None, Ok, refl, sym, ◌∙◌, ap, subst, arith}
use Rattle.std.specs.Prelude.{Option, is_ok}
use Rattle.std.proofs.lemmas.Bool.{false≢true}
use Rattle.vm_base.specs.declared.faults.Fault.{Fault}
use Rattle.vm_base.specs.declared.faults.Fault.TheVariants.{NoArea, NoWrite, NoFrame, Overlap, AreasFull, CellsFull}
use Rattle.vm_base.specs.Places.{page_of, page_count}
use Rattle.vm_base.specs.FlatMemory.{FlatMemory}
use Rattle.vm_base.specs.FlatStep.{OutsideAreas, ReadOnly, or_refused, outside, unwritable}
use Rattle.vm_base.specs.MemoryState.{MemoryState, KeepsReady, IsIn, own_of}
use Rattle.vm_base.specs.MemoryCalls.{Touches, TouchFails, touched, if_slots, faulted, is_out_of_slots, after_store}
use Rattle.memory_uses.specs.Steps.{Ranges, StoresAll, TouchesFront, touched_all, stored_all, most_after}
use Rattle.memory_uses.proofs.Undone.{memory_of}

if_touched : (out_of unwritten : Option ℕ) (out : Bool) (memory new : FlatMemory)
    → if_slots out (faulted (or_refused OutsideAreas out_of (or_refused ReadOnly unwritten (Ok memory)))) ≡ Ok new → new ≡ memory
if_touched (Some page) unwritten out memory new answer = absurd (false≢true (ap is_ok answer))
if_touched None (Some page) out memory new answer = absurd (false≢true (ap is_ok answer))
if_touched None None true memory new answer = absurd (false≢true (ap is_ok answer))
if_touched None None false memory new answer = sym (ap (λ a. memory_of a new) answer)

-- a touch leaves the memory with the pages of its range
pub touches_mem : (old new : MemoryState) (address n : ℕ) → Touches old new address n → new.mem ≡ touched old.mem address n
touches_mem old new address n touch =
    if_touched (outside old.mem.areas (page_of address) (page_count address n)) (unwritable old.mem.areas (page_of address) (page_count address n))
    (is_out_of_slots old address n) (touched old.mem address n) new.mem touch.mem

-- a refused touch leaves the memory
pub touch_fails_mem : (old new : MemoryState) (address n : ℕ) (fault : Fault) → TouchFails old new address n fault → new.mem ≡ old.mem
touch_fails_mem old new address n (NoFrame at page) fails = fails.mem
touch_fails_mem old new address n (NoArea page) fails = ap (λ s. s.mem) fails.1
touch_fails_mem old new address n (NoWrite page) fails = ap (λ s. s.mem) fails.1
touch_fails_mem old new address n (Overlap page) fails = absurd fails
touch_fails_mem old new address n AreasFull fails = absurd fails
touch_fails_mem old new address n CellsFull fails = ap (λ s. s.mem) fails.1

still_ready : (old new : MemoryState) → new ≡ old → KeepsReady old new
still_ready old new same page is = subst (λ s. IsIn page s.ready) (sym same) is

-- and what may be stored to
pub touch_fails_keeps : (old new : MemoryState) (address n : ℕ) (fault : Fault) → TouchFails old new address n fault → KeepsReady old new
touch_fails_keeps old new address n (NoFrame at page) fails = fails.keeps
touch_fails_keeps old new address n (NoArea page) fails = still_ready old new fails.1
touch_fails_keeps old new address n (NoWrite page) fails = still_ready old new fails.1
touch_fails_keeps old new address n (Overlap page) fails = absurd fails
touch_fails_keeps old new address n AreasFull fails = absurd fails
touch_fails_keeps old new address n CellsFull fails = still_ready old new fails.1

-- three touches and then three stores
pub stores_three : (s0 s1 s2 s3 s4 s5 s6 : MemoryState) (a b d : ℕ) (x y z : List ℕ) → Touches s0 s1 a (length x) → Touches s1 s2 b (length y) → Touches s2 s3 d (length z)
    → s4 ≡ after_store s3 a x → s5 ≡ after_store s4 b y → s6 ≡ after_store s5 d z → StoresAll s0 s6 ((a, x) ∷ (b, y) ∷ (d, z) ∷ [])
stores_three s0 s1 s2 s3 s4 s5 s6 a b d x y z t1 t2 t3 e4 e5 e6 =
    let one = touches_mem s0 s1 a (length x) t1 in
    let two = touches_mem s1 s2 b (length y) t2 ∙ ap (λ m. touched m b (length y)) one in
    let three = touches_mem s2 s3 d (length z) t3 ∙ ap (λ m. touched m d (length z)) two in
    let all : s6 ≡ after_store (after_store (after_store s3 a x) b y) d z = e6 ∙ ap (λ s. after_store s d z) e5 ∙ ap (λ s. after_store (after_store s b y) d z) e4 in
    record {
      mem = ap (λ s. s.mem) all ∙ ap (λ m. stored_all m ((a, x) ∷ (b, y) ∷ (d, z) ∷ [])) three;
      most = ap (λ s. s.most) all ∙ t3.most ∙ ap (λ m. max s2.most (own_of (touched m d (length z)))) two
          ∙ ap (λ k. max k (own_of (touched (touched (touched s0.mem a (length x)) b (length y)) d (length z))))
          (t2.most ∙ ap (λ m. max s1.most (own_of (touched m b (length y)))) one
          ∙ ap (λ k. max k (own_of (touched (touched s0.mem a (length x)) b (length y)))) t1.most);
      keeps = λ page is. subst (λ s. IsIn page s.ready) (sym all) (t3.keeps page (t2.keeps page (t1.keeps page is)));
    }

-- two touches and then two stores
pub stores_two : (s0 s1 s2 s3 s4 : MemoryState) (a b : ℕ) (x y : List ℕ) → Touches s0 s1 a (length x) → Touches s1 s2 b (length y)
    → s3 ≡ after_store s2 a x → s4 ≡ after_store s3 b y → StoresAll s0 s4 ((a, x) ∷ (b, y) ∷ [])
stores_two s0 s1 s2 s3 s4 a b x y t1 t2 e3 e4 =
    let one = touches_mem s0 s1 a (length x) t1 in
    let two = touches_mem s1 s2 b (length y) t2 ∙ ap (λ m. touched m b (length y)) one in
    let all : s4 ≡ after_store (after_store s2 a x) b y = e4 ∙ ap (λ s. after_store s b y) e3 in
    record {
      mem = ap (λ s. s.mem) all ∙ ap (λ m. stored_all m ((a, x) ∷ (b, y) ∷ [])) two;
      most = ap (λ s. s.most) all ∙ t2.most ∙ ap (λ m. max s1.most (own_of (touched m b (length y)))) one
          ∙ ap (λ k. max k (own_of (touched (touched s0.mem a (length x)) b (length y)))) t1.most;
      keeps = λ page is. subst (λ s. IsIn page s.ready) (sym all) (t2.keeps page (t1.keeps page is));
    }

-- the first, the second or the third touch was refused
pub fails_first : (s0 s1 : MemoryState) (range : ℕ × List ℕ) (back : Ranges) (fault : Fault) → TouchFails s0 s1 range.0 (length range.1) fault → TouchesFront s0 s1 (range ∷ back) fault
fails_first s0 s1 range back fault fails = record {
  front = [];
  range = range;
  back = back;
  among = refl;
  mem = touch_fails_mem s0 s1 range.0 (length range.1) fault fails;
  keeps = touch_fails_keeps s0 s1 range.0 (length range.1) fault fails;
  before = s0;
  counted = omega arith;
  reached = refl;
  fails = fails;
}

pub fails_later : (s0 s1 s2 : MemoryState) (range : ℕ × List ℕ) (ranges : Ranges) (fault : Fault) → Touches s0 s1 range.0 (length range.1)
    → s0.refused ≤ s1.refused → TouchesFront s1 s2 ranges fault → TouchesFront s0 s2 (range ∷ ranges) fault
fails_later s0 s1 s2 range ranges fault touch counted fails = record {
  front = range ∷ fails.front;
  range = fails.range;
  back = fails.back;
  among = ap (λ l. range ∷ l) fails.among;
  mem = fails.mem ∙ ap (λ m. touched_all m fails.front) (touches_mem s0 s1 range.0 (length range.1) touch);
  keeps = λ page is. fails.keeps page (touch.keeps page is);
  before = fails.before;
  counted = omega (arith, counted, fails.counted);
  reached = fails.reached ∙ ap (λ k. most_after k s1.mem fails.front) touch.most
      ∙ ap (λ m. most_after (max s0.most (own_of (touched s0.mem range.0 (length range.1)))) m fails.front)
      (touches_mem s0 s1 range.0 (length range.1) touch);
  fails = fails.fails;
}
