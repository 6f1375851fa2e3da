-- What a snapshot reads that is a memory as it stands.
use Rattle.std.proofs.Common.{◌≡◌, ℕ, List, [], ◌∷◌, Option, Some, None, refl, sym, ◌∙◌, ap, arith}
use Rattle.std.specs.Prelude.{Result, Ok, Err, is_some}
use Rattle.std.specs.FinMap.{get, empty, get-empty}
use Rattle.std.specs.Option.{option_or}
use Rattle.std.specs.Ordering.{nat_cmp}
use Rattle.std.proofs.lemmas.Bool.{false≢true}
use Rattle.vm_base.specs.declared.faults.Fault.{Fault}
use Rattle.vm_base.specs.declared.faults.Fault.TheVariants.{NoArea, NoWrite, NoFrame, Overlap, AreasFull, CellsFull}
use Rattle.vm_base.specs.declared.faults.SnapFault.{SnapFault}
use Rattle.vm_base.specs.declared.faults.SnapFault.TheVariants.{NoArea as OutsideThen, Lost}
use Rattle.vm_base.specs.Places.{page_of, page_count, cells_of_range}
use Rattle.vm_base.specs.FlatMemory.{FlatMemory, bytes_at}
use Rattle.vm_base.specs.FlatStep.{OutsideAreas, or_refused, outside}
use Rattle.vm_base.specs.MemoryCalls.{faulted, read_answer}
use Rattle.vm_base.specs.SnapshotState.{KeepsSnapshot, first_found, unless_fault, snapshot_answer}
use Rattle.memory_views.specs.ReadViews.{snapshot_of}

none_found : (cell at : ℕ) → get {X = ℕ} {R = nat_cmp} empty cell ≡ Some at → ⊥
none_found cell at found = false≢true (ap is_some (sym (get-empty nat_cmp cell) ∙ found))

-- nothing of it changes
pub keeps_snapshot : (memory : FlatMemory) → KeepsSnapshot (snapshot_of memory) (snapshot_of memory)
keeps_snapshot memory = record {
  goes_on = record {
    mem = refl;
    found = λ cell at found. found;
    counted = omega arith;
    todo = omega arith;
    passed = λ passed. passed;
    whole = λ whole. whole;
  };
  cells = λ cell at found. absurd (none_found cell at found);
  unskipped = λ whole. refl;
}

none_lost : (cells : List ℕ) → first_found empty cells ≡ None
none_lost [] = refl
none_lost (cell ∷ cells) = ap (λ found. option_or found (first_found empty cells)) (get-empty nat_cmp cell) ∙ none_lost cells

-- an answer of a read, as a snapshot gives it
abbrev pub answer_of : Result (List ℕ) Fault → Result (List ℕ) SnapFault
answer_of (Ok bytes) = Ok bytes
answer_of (Err (NoArea page)) = Err (OutsideThen page)
answer_of (Err (NoWrite page)) = Err (Lost page)
answer_of (Err (NoFrame at page)) = Err (Lost at)
answer_of (Err (Overlap page)) = Err (Lost page)
answer_of (Err AreasFull) = Err (Lost 0)
answer_of (Err CellsFull) = Err (Lost 0)

read_outside : (page : Option ℕ) (there : List ℕ)
    → unless_fault OutsideThen page (Ok there) ≡ answer_of (faulted (or_refused OutsideAreas page (Ok there)))
read_outside None there = refl
read_outside (Some page) there = refl

pub read_as : (memory : FlatMemory) (address n : ℕ)
    → snapshot_answer (snapshot_of memory) address n ≡ answer_of (read_answer memory address n)
read_as memory address n =
    ap (λ lost. unless_fault OutsideThen (outside memory.areas (page_of address) (page_count address n))
    (unless_fault Lost lost (Ok (bytes_at memory.present address n)))) (none_lost (cells_of_range address n))
    ∙ read_outside (outside memory.areas (page_of address) (page_count address n)) (bytes_at memory.present address n)

pub reads : (memory : FlatMemory) (address n : ℕ) (bytes : List ℕ) → read_answer memory address n ≡ Ok bytes
    → snapshot_answer (snapshot_of memory) address n ≡ Ok bytes
reads memory address n bytes is = read_as memory address n ∙ ap answer_of is

pub reads_outside : (memory : FlatMemory) (address n page : ℕ) → read_answer memory address n ≡ Err (NoArea page)
    → snapshot_answer (snapshot_of memory) address n ≡ Err (OutsideThen page)
reads_outside memory address n page is = read_as memory address n ∙ ap answer_of is
