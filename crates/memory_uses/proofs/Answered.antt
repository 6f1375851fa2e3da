-- What a snapshot answers is the bytes at its fork.
use Rattle.std.proofs.Common.{◌≡◌, ℕ, ◌≤◌, true, List, [], ◌∷◌, Some, None, Ok, Err, Result, OnOk, IfErr, refl, sym, ◌∙◌, ap, subst}
use Rattle.std.specs.Prelude.{Option, is_ok, is_some, IfOk}
use Rattle.std.specs.Option.{option_or}
use Rattle.std.specs.Ordering.{nat_cmp}
use Rattle.std.specs.FinMap.{get, empty, get-empty}
use Rattle.vm_base.specs.declared.faults.CopyFault.{CopyFault}
use Rattle.vm_base.specs.declared.faults.CopyFault.TheVariants.{Refused, Lost as CopyLost}
use Rattle.vm_base.specs.Counts.{next_count}
use Rattle.vm_base.specs.ProcessState.{Found}
use Rattle.memory_uses.specs.Copied.{IsAllCopied, IsLostSince, FailsBefore, IsReadSince, IsOutsideRead}
use Rattle.std.proofs.lemmas.Bool.{false≢true}
use Rattle.vm_base.specs.declared.faults.SnapFault.{SnapFault}
use Rattle.vm_base.specs.declared.faults.SnapFault.TheVariants.{NoArea, Lost}
use Rattle.vm_base.specs.Places.{page_of, page_count, cells_of_range}
use Rattle.vm_base.specs.FlatMemory.{FlatMemory, bytes_at}
use Rattle.vm_base.specs.FlatStep.{outside}
use Rattle.vm_base.specs.SnapshotState.{SnapshotState, GoesOn, CopyFails, IsFoundSince, snapshot_answer, unless_fault, first_found}

abbrev bytes_of : Result (List ℕ) SnapFault → List ℕ → List ℕ
bytes_of (Ok bytes) other = bytes
bytes_of (Err fault) other = other

answered : (out_of lost : Option ℕ) (here bytes : List ℕ) → unless_fault NoArea out_of (unless_fault Lost lost (Ok here)) ≡ Ok bytes → here ≡ bytes
answered (Some page) lost here bytes answer = absurd (false≢true (ap is_ok answer))
answered None (Some at) here bytes answer = absurd (false≢true (ap is_ok answer))
answered None None here bytes answer = ap (λ a. bytes_of a here) answer

pub bytes_at-answer : (snap : SnapshotState) (address n : ℕ) (bytes : List ℕ) → snapshot_answer snap address n ≡ Ok bytes → bytes_at snap.mem.present address n ≡ bytes
bytes_at-answer snap address n bytes answer =
    answered (outside snap.mem.areas (page_of address) (page_count address n)) (first_found snap.found (cells_of_range address n))
    (bytes_at snap.mem.present address n) bytes answer

pub bytes_on_ok : (result : Result (Unit {0}) SnapFault) (snap : SnapshotState) (kept : FlatMemory) (address n : ℕ) (bytes : List ℕ) → snap.mem ≡ kept
    → OnOk result (snapshot_answer snap address n ≡ Ok bytes) → OnOk result (bytes_at kept.present address n ≡ bytes)
bytes_on_ok (Ok done) snap kept address n bytes same answer = sym (ap (λ m. bytes_at m.present address n) same) ∙ bytes_at-answer snap address n bytes answer
bytes_on_ok (Err fault) snap kept address n bytes same answer = tt

abbrev snap_fault_in : Result (List ℕ) SnapFault → SnapFault → SnapFault
snap_fault_in (Ok bytes) other = other
snap_fault_in (Err fault) other = fault

first_or_later : (one : Option ℕ) (found : Found) (cell : ℕ) (later : Option ℕ) (at : ℕ) → get found cell ≡ one → option_or (get found cell) later ≡ Some at
    → (later ≡ Some at → (other : ℕ) × (get found other ≡ Some at)) → (other : ℕ) × (get found other ≡ Some at)
first_or_later (Some count) found cell later at same is go_on = (cell, same ∙ sym (ap (λ o. option_or o later) same) ∙ is)
first_or_later None found cell later at same is go_on = go_on (sym (ap (λ o. option_or o later) same) ∙ is)

-- a cell that was found lost has the count of the first
pub lost_among : (found : Found) (cells : List ℕ) (at : ℕ) → first_found found cells ≡ Some at → (cell : ℕ) × (get found cell ≡ Some at)
lost_among found [] at is = absurd (false≢true (ap is_some is))
lost_among found (cell ∷ cells) at is = first_or_later (get found cell) found cell (first_found found cells) at refl is (lost_among found cells at)

since_from : (born refused : ℕ) (out_of lost : Option ℕ) (here : List ℕ) (fault : SnapFault) → ((at : ℕ) → lost ≡ Some at → (next_count born ≤ at) × (at ≤ refused))
    → unless_fault NoArea out_of (unless_fault Lost lost (Ok here)) ≡ Err fault → IsReadSince born refused fault
since_from born refused (Some page) lost here fault bounds answer = subst (IsReadSince born refused) (ap (λ a. snap_fault_in a fault) answer) tt
since_from born refused None (Some at) here fault bounds answer = subst (IsReadSince born refused) (ap (λ a. snap_fault_in a fault) answer) (bounds at refl)
since_from born refused None None here fault bounds answer = absurd (false≢true (sym (ap is_ok answer)))

-- a lost cell that a read tells was lost since the fork
pub read_since : (born refused : ℕ) (snap : SnapshotState) (address n : ℕ) (fault : SnapFault) → IsFoundSince born refused snap → snapshot_answer snap address n ≡ Err fault → IsReadSince born refused fault
read_since born refused snap address n fault since answer =
    since_from born refused (outside snap.mem.areas (page_of address) (page_count address n)) (first_found snap.found (cells_of_range address n))
    (bytes_at snap.mem.present address n) fault
    (λ at is. let lost = lost_among snap.found (cells_of_range address n) at is in since lost.0 at lost.1) answer

outside_from : (out_of lost : Option ℕ) (here : List ℕ) (fault : SnapFault) → lost ≡ None → unless_fault NoArea out_of (unless_fault Lost lost (Ok here)) ≡ Err fault → IsOutsideRead fault
outside_from (Some page) lost here fault none answer = subst IsOutsideRead (ap (λ a. snap_fault_in a fault) answer) tt
outside_from None (Some at) here fault none answer = absurd (false≢true (sym (ap is_some none)))
outside_from None None here fault none answer = absurd (false≢true (sym (ap is_ok answer)))

none_lost : (found : Found) (cells : List ℕ) → found ≡ empty → first_found found cells ≡ None
none_lost found [] none = refl
none_lost found (cell ∷ cells) none =
    let absent : get found cell ≡ None = ap (λ f. get f cell) none ∙ get-empty nat_cmp cell in
    ap (λ o. option_or o (first_found found cells)) absent ∙ none_lost found cells none

-- where no cell is lost, a read is refused for want of an area alone
pub read_outside : (snap : SnapshotState) (address n : ℕ) (fault : SnapFault) → snap.found ≡ empty → snapshot_answer snap address n ≡ Err fault → IsOutsideRead fault
read_outside snap address n fault none answer =
    outside_from (outside snap.mem.areas (page_of address) (page_count address n)) (first_found snap.found (cells_of_range address n))
    (bytes_at snap.mem.present address n) fault (none_lost snap.found (cells_of_range address n) none) answer

pub since_on_err : (result : Result (Unit {0}) SnapFault) (born refused : ℕ) (snap : SnapshotState) (address n : ℕ) → IsFoundSince born refused snap
    → IfErr result (λ fault. snapshot_answer snap address n ≡ Err fault)
    → IfErr result (λ fault. (snapshot_answer snap address n ≡ Err fault) × IsReadSince born refused fault)
since_on_err (Ok done) born refused snap address n since answer = tt
since_on_err (Err fault) born refused snap address n since answer = (answer, read_since born refused snap address n fault since answer)

pub outside_on_err : (result : Result (Unit {0}) SnapFault) (snap : SnapshotState) (address n : ℕ) → snap.found ≡ empty
    → IfErr result (λ fault. snapshot_answer snap address n ≡ Err fault) → IfErr result IsOutsideRead
outside_on_err (Ok done) snap address n none answer = tt
outside_on_err (Err fault) snap address n none answer = read_outside snap address n fault none answer

-- where all was copied none is lost
pub none_on_ok : (result : Result ℕ CopyFault) (old new : SnapshotState) → IfOk result (λ copies. IsAllCopied old new copies) → is_ok result ≡ true → new.found ≡ empty
none_on_ok (Ok copies) old new copied ok = copied.none_lost
none_on_ok (Err fault) old new copied ok = absurd (false≢true ok)

lost_since : (born refused : ℕ) (old failed : SnapshotState) (fault : CopyFault) → CopyFails old failed fault → IsFoundSince born refused failed → IsLostSince born refused fault
lost_since born refused old failed (Refused at) fails since = tt
lost_since born refused old failed (CopyLost at) fails since = since fails.1.0 at fails.1.1

-- a copy failed, and a read came behind it
pub failed_before : (result : Result (Unit {0}) CopyFault) (old failed new : SnapshotState) (born refused : ℕ) → IfErr result (λ fault. CopyFails old failed fault) → GoesOn failed new
    → IsFoundSince born refused failed → IfErr result (λ fault. FailsBefore old new fault × IsLostSince born refused fault)
failed_before (Ok done) old failed new born refused fails goes_on since = tt
failed_before (Err fault) old failed new born refused fails goes_on since =
    (record { failed = failed; fails = fails; goes_on = goes_on }, lost_since born refused old failed fault fails since)
