-- An array that is mapped and touched, and what follows where that is refused or done.
use Rattle.std.proofs.Common.{◌≡◌, ℕ, List, length, Ok, Err, Result, OnOk, IfErr, subst, inl, inr}
use Rattle.vm_base.specs.declared.permission.Perm.TheVariants.{ReadWrite}
use Rattle.vm_base.specs.declared.faults.Fault.{Fault}
use Rattle.vm_base.specs.FlatMemory.{IsFlat}
use Rattle.vm_base.specs.MemoryState.{MemoryState, IsKept}
use Rattle.vm_base.specs.MemoryCalls.{Maps, Changes, Refuses, Touches, TouchFails, map_answer, unmap_answer, after_store}
use Rattle.memory_uses.specs.Steps.{IsMappedInto, AreListed}
use Rattle.memory_uses.specs.Doubled.{TouchesPages, TouchesArray, ArrayFails, Grows, Doubles, DoublingFails}
use Rattle.memory_uses.proofs.Undone.{mapped-on, mapped_into}
use Rattle.memory_uses.proofs.Pieces.{array_fails_mem}

-- after a refused touch of an array that was mapped last, only pages of that array have changed
pub array_into : (old mapped new : MemoryState) (first n header size : ℕ) (fault : Fault) → IsFlat old.mem → Maps old mapped (map_answer old first n ReadWrite)
    → ArrayFails mapped new first n header size fault → IsMappedInto old.mem new.mem first n
array_into old mapped new first n header size fault flat maps fails =
    let left = array_fails_mem mapped new first n header size fault fails in
    mapped-on old.mem mapped.mem new.mem first n (mapped_into old first n ReadWrite mapped.mem flat maps.0) left.0 left.1

-- the old array was unmapped
pub doubled_on : (answer : Result (Unit {0}) Fault) (old grown stored new : MemoryState) (first n header : ℕ) (fields : List ℕ) (from pages : ℕ)
    → Grows old grown first n header (length fields) → stored ≡ after_store grown header fields → OnOk answer (Changes stored new (unmap_answer stored from pages))
    → OnOk answer (Doubles old new first n header fields from pages)
doubled_on (Ok done) old grown stored new first n header fields from pages grow same changes = record {
  grown = grown;
  grow = grow;
  unmap = subst (λ s. Changes s new (unmap_answer s from pages)) same changes;
}
doubled_on (Err fault) old grown stored new first n header fields from pages grow same changes = tt

-- or could not be
pub not_unmapped : (answer : Result (Unit {0}) Fault) (old grown stored new : MemoryState) (first n header : ℕ) (fields : List ℕ) (from pages : ℕ)
    → Grows old grown first n header (length fields) → stored ≡ after_store grown header fields → IfErr answer (λ fault. Refuses stored new (unmap_answer stored from pages) fault)
    → IfErr answer (λ fault. DoublingFails old new first n header fields from pages fault)
not_unmapped (Ok done) old grown stored new first n header fields from pages grow same refuses = tt
not_unmapped (Err fault) old grown stored new first n header fields from pages grow same refuses =
    inr (grown, (grow, subst (λ s. Refuses s new (unmap_answer s from pages) fault) same refuses))

-- the pages were touched, and the header behind them
pub array_touched : (answer : Result (Unit {0}) Fault) (old behind new : MemoryState) (first n header size : ℕ) → TouchesPages old behind first n
    → OnOk answer (Touches behind new header size) → OnOk answer (TouchesArray old new first n header size)
array_touched (Ok done) old behind new first n header size pages word = record { behind = behind; pages = pages; word = word }
array_touched (Err fault) old behind new first n header size pages word = tt

pub word_fails : (answer : Result (Unit {0}) Fault) (old behind new : MemoryState) (first n header size : ℕ) → TouchesPages old behind first n
    → IfErr answer (λ fault. TouchFails behind new header size fault) → IfErr answer (λ fault. ArrayFails old new first n header size fault)
word_fails (Ok done) old behind new first n header size pages fails = tt
word_fails (Err fault) old behind new first n header size pages fails = inr (behind, (pages, fails))

-- more cells may get slots
pub kept_front : (old new : MemoryState) (front cells : List ℕ) → IsKept old new front → AreListed front cells → IsKept old new cells
kept_front old new front cells kept more = record {
  before = kept.before;
  after = kept.after;
  room = kept.room;
  slots = kept.slots;
  used = λ cell is. elim (kept.used cell is) [ inl old ↦ inl old | inr new ↦ inr (more cell new) ];
  enough = kept.enough;
  counted = kept.counted;
  grown = kept.grown;
}
