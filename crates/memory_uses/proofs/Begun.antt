-- Areas mapped one after another, and a touch behind them.
use Rattle.std.proofs.Common.{◌≡◌, ℕ, ◌≤◌, max, List, [], ◌∷◌, Ok, Err, Result, refl, sym, ◌∙◌, ap, arith, inl, inr}
use Rattle.std.specs.Prelude.{is_ok}
use Rattle.std.proofs.lemmas.Bool.{false≢true}
use Rattle.vm_base.specs.declared.faults.Fault.{Fault}
use Rattle.vm_base.specs.declared.permission.Perm.{Perm}
use Rattle.vm_base.specs.declared.permission.Perm.TheVariants.{ReadWrite}
use Rattle.vm_base.specs.FlatMemory.{FlatMemory}
use Rattle.vm_base.specs.FlatStep.{Refusal, map_of, protect_of}
use Rattle.vm_base.specs.MemoryState.{MemoryState, own_of}
use Rattle.vm_base.specs.MemoryCalls.{Maps, Changes, Touches, TouchFails, touched, faulted, fault_of, map_answer, protect_answer}
use Rattle.memory_uses.specs.Steps.{MapsThenTouches, MapsOrTouchFails, MapsAndProtects, ProtectFails, map_all, where_mapped}
use Rattle.memory_uses.proofs.Undone.{memory_of}
use Rattle.memory_uses.proofs.Touched.{touches_mem}

abbrev fault_in : Result FlatMemory Fault → Fault → Fault
fault_in (Ok memory) other = other
fault_in (Err fault) other = fault

-- the answer of the flat memory, behind that with a fault
pub unfaulted : (answer : Result FlatMemory Refusal) (memory : FlatMemory) → faulted answer ≡ Ok memory → answer ≡ Ok memory
unfaulted (Ok found) memory same = ap Ok (ap (λ a. memory_of a memory) same)
unfaulted (Err refusal) memory same = absurd (false≢true (ap is_ok same))

refusal_of : (answer : Result FlatMemory Refusal) (fault : Fault) → faulted answer ≡ Err fault → (refusal : Refusal) × ((answer ≡ Err refusal) × (fault ≡ fault_of refusal))
refusal_of (Ok found) fault same = absurd (false≢true (sym (ap is_ok same)))
refusal_of (Err refusal) fault same = (refusal, (refl, sym (ap (λ a. fault_in a fault) same)))

-- the first area was mapped
front_mapped : (old middle : MemoryState) (first n : ℕ) (areas : List (ℕ × ℕ)) → Maps old middle (map_answer old first n ReadWrite)
    → map_all old.mem ((first, n) ∷ areas) ≡ map_all middle.mem areas
front_mapped old middle first n areas maps = ap (λ a. where_mapped a (λ mapped. map_all mapped areas)) (unfaulted (map_of old.mem first n ReadWrite) middle.mem maps.0)

same_most : (old middle : MemoryState) (first n : ℕ) → Maps old middle (map_answer old first n ReadWrite) → middle.most ≡ old.most
same_most old middle first n maps = ap (λ s. s.most) maps.1

pub begun_one : (old middle new : MemoryState) (first n address k : ℕ) → Maps old middle (map_answer old first n ReadWrite) → Touches middle new address k
    → MapsThenTouches old new ((first, n) ∷ []) address k
begun_one old middle new first n address k maps touch = record {
  mapped = middle.mem;
  maps = front_mapped old middle first n [] maps;
  mem = touches_mem middle new address k touch;
  most = touch.most ∙ ap (λ m. max m (own_of (touched middle.mem address k))) (same_most old middle first n maps)
      ∙ ap (λ m. max old.most (own_of m)) (sym (touches_mem middle new address k touch));
  ready = touch.ready;
}

pub begun_more : (old middle new : MemoryState) (first n address k : ℕ) (areas : List (ℕ × ℕ)) → Maps old middle (map_answer old first n ReadWrite) → MapsThenTouches middle new areas address k
    → MapsThenTouches old new ((first, n) ∷ areas) address k
begun_more old middle new first n address k areas maps begun = record {
  mapped = begun.mapped;
  maps = front_mapped old middle first n areas maps ∙ begun.maps;
  mem = begun.mem;
  most = begun.most ∙ ap (λ m. max m (own_of new.mem)) (same_most old middle first n maps);
  ready = begun.ready;
}

pub fails_map : (old new : MemoryState) (first n address k : ℕ) (areas : List (ℕ × ℕ)) (fault : Fault) → map_answer old first n ReadWrite ≡ Err fault → new ≡ old
    → MapsOrTouchFails old new ((first, n) ∷ areas) address k fault
fails_map old new first n address k areas fault answer same =
    let why = refusal_of (map_of old.mem first n ReadWrite) fault answer in
    inl (why.0, (ap (λ a. where_mapped a (λ mapped. map_all mapped areas)) why.1.0, why.1.1, ap (λ s. s.most) same))

pub fails_touch : (old middle after new : MemoryState) (first n address k : ℕ) (fault : Fault) → Maps old middle (map_answer old first n ReadWrite) → TouchFails middle after address k fault
    → new.most ≡ after.most → after.refused ≤ new.refused → MapsOrTouchFails old new ((first, n) ∷ []) address k fault
fails_touch old middle after new first n address k fault maps fails reached counted = inr (record {
  before = middle;
  after = after;
  maps = front_mapped old middle first n [] maps;
  before_is = maps.1;
  fails = fails;
  reached = reached;
  counted = counted;
})

pub fails_more : (old middle inner new : MemoryState) (first n address k : ℕ) (areas : List (ℕ × ℕ)) (fault : Fault) → Maps old middle (map_answer old first n ReadWrite)
    → MapsOrTouchFails middle inner areas address k fault → new.most ≡ inner.most → inner.refused ≤ new.refused → MapsOrTouchFails old new ((first, n) ∷ areas) address k fault
fails_more old middle inner new first n address k areas fault maps (inl why) reached counted =
    inl (why.0, (front_mapped old middle first n areas maps ∙ why.1.0, why.1.1, reached ∙ why.1.2 ∙ same_most old middle first n maps))
fails_more old middle inner new first n address k areas fault maps (inr lacks) reached counted = inr (record {
  before = lacks.before;
  after = lacks.after;
  maps = front_mapped old middle first n areas maps ∙ lacks.maps;
  before_is = lacks.before_is ∙ ap {A = MemoryState} (λ s. record s { mem = lacks.before.mem }) maps.1;
  fails = lacks.fails;
  reached = reached ∙ lacks.reached;
  counted = omega (arith, lacks.counted);
})

pub protects : (old middle new : MemoryState) (first n : ℕ) (perm : Perm) → Maps old middle (map_answer old first n ReadWrite) → Changes middle new (protect_answer middle first n perm)
    → MapsAndProtects old.mem new.mem first n perm
protects old middle new first n perm maps changes = record {
  mapped = middle.mem;
  map = unfaulted (map_of old.mem first n ReadWrite) middle.mem maps.0;
  protect = unfaulted (protect_of middle.mem first n perm) new.mem changes.0;
}

pub fails_protect : (old middle : MemoryState) (first n : ℕ) (perm : Perm) (fault : Fault) → Maps old middle (map_answer old first n ReadWrite) → protect_answer middle first n perm ≡ Err fault
    → ProtectFails old.mem first n perm fault
fails_protect old middle first n perm fault maps answer = inr (middle.mem, (unfaulted (map_of old.mem first n ReadWrite) middle.mem maps.0, answer))
