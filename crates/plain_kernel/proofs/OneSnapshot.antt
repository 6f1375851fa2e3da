-- A world with at most one snapshot, and nothing lost.
use Rattle.std.proofs.Common.{◌≡◌, ℕ, List, [], ◌∷◌, Option, Some, None, cond, eqb, refl, subst, sym, ◌∙◌, ap}
use Rattle.std.specs.Prelude.{Result, Ok, Err, IfOk, is_some}
use Rattle.std.specs.Ordering.{nat_cmp}
use Rattle.std.specs.FinMap.{FinMap, get, insert, empty, len, get-empty, empty_of_len}
use Rattle.std.proofs.lemmas.Bool.{true≢false}
use Rattle.vm_base.specs.Places.{cells_of_range, page_of, page_count}
use Rattle.vm_base.specs.FlatMemory.{FlatMemory, bytes_at}
use Rattle.vm_base.specs.FlatStep.{Refusal, OutsideAreas, or_refused, outside, read_of}
use Rattle.vm_base.specs.TwoSides.{World, Loss, forked, OutsideSnapshot, CellLost, first_loss, or_snap_refused, kept_read_of}
use Rattle.vm_base.proofs.NumberedMaps.{get_inserted, get_inserted_here}
use Rattle.plain_kernel.specs.declared.outcome.Outcome.{Outcome}
use Rattle.plain_kernel.specs.declared.kernel.Snapshot.{Snapshot}
use Rattle.plain_kernel.specs.declared.memory.MemoryFault.{MemoryFault}
use Rattle.plain_kernel.specs.declared.memory.MemoryFault.TheVariants.{NoArea, NoWrite, NoMemory}
use Rattle.plain_kernel.specs.PlainMemory.{Gives}
use Rattle.plain_kernel.specs.PlainAnswers.{bytes_outcome_of}
use Rattle.plain_kernel.specs.Sides.{snapshots_of, copies_of}
use Rattle.plain_kernel.specs.KernelStep.{read_outcome, plain_snap_read_outcome}

-- where nothing is lost, no cell of a range is
first_loss_none : (n : ℕ) (cells : List ℕ) → first_loss [] n cells ≡ None
first_loss_none n [] = refl
first_loss_none n (cell ∷ cells) = first_loss_none n cells

same_answer : (found : Option ℕ) (bytes : List ℕ)
    → plain_snap_read_outcome (or_snap_refused OutsideSnapshot found (Ok bytes))
    ≡ read_outcome (or_refused OutsideAreas found (Ok bytes))
same_answer None bytes = refl
same_answer (Some page) bytes = refl

-- where nothing is lost, a snapshot's read answers as that of its memory
pub kept_read_is : (memory : FlatMemory) (n address size : ℕ)
    → plain_snap_read_outcome (kept_read_of (Some memory) [] n address size) ≡ read_outcome (read_of memory address size)
kept_read_is memory n address size =
    ap (λ found. plain_snap_read_outcome (or_snap_refused OutsideSnapshot (outside memory.areas (page_of address) (page_count address size)) (or_snap_refused CellLost found (Ok (bytes_at memory.present address size)))))
    (first_loss_none n (cells_of_range address size))
    ∙ same_answer (outside memory.areas (page_of address) (page_count address size)) (bytes_at memory.present address size)

-- what a map of one entry has
pub get_single : (number : ℕ) (memory : FlatMemory) (q : ℕ) → get (insert (empty {R = nat_cmp}) number memory) q ≡ cond (eqb q number) (Some memory) None
get_single number memory q = get_inserted empty number memory q ∙ ap (cond (eqb q number) (Some memory)) (get-empty nat_cmp q)

-- a map of one entry is not empty
single_not_empty : {X : Type 0} (number : ℕ) (value : X) → len (insert (empty {R = nat_cmp}) number value) ≡ 0 → ⊥
single_not_empty number value none = true≢false (
    ap is_some (sym (get_inserted_here empty number value number refl))
    ∙ ap (λ m. is_some (get m number)) (empty_of_len (insert (empty {R = nat_cmp}) number value) none)
    ∙ ap is_some (get-empty nat_cmp number))

-- the snapshot that lives, by its number
pub get-snapshots_of : (snapshot : Snapshot) (q : ℕ) → get (snapshots_of (Some snapshot)) q ≡ cond (eqb q snapshot.number) (Some snapshot.memory) None
get-snapshots_of snapshot q = get_single snapshot.number snapshot.memory q

-- a world with these sides
abbrev pub world_of : FlatMemory → Option Snapshot → ℕ → World
world_of parent snapshot last = record {
  parent = parent;
  snapshots = snapshots_of snapshot;
  losses = [];
  last = last;
  refused = 0;
  refused_copies = copies_of snapshot;
}

-- a fork where no snapshot lives
pub forked_first : (parent memory : FlatMemory) (snapshot : Option Snapshot) (last n : ℕ) → len (snapshots_of snapshot) ≡ 0 → memory ≡ parent
    → world_of parent (Some (record { number = n; memory = memory })) n ≡ forked (world_of parent snapshot last) n
forked_first parent memory None last n none same = ap (λ (m : FlatMemory). world_of parent (Some (record { number = n; memory = m })) n) same
forked_first parent memory (Some snapshot) last n none same = absurd (single_not_empty snapshot.number snapshot.memory none)

-- the answer of a read
pub read_answers : (read : Result (List ℕ) MemoryFault) (answer : Result (List ℕ) Refusal) → Gives read answer → IfOk (bytes_outcome_of read) (λ outcome. outcome ≡ read_outcome answer)
read_answers (Ok bytes) answer is = ap read_outcome (sym is)
read_answers (Err (NoArea page)) answer is = ap read_outcome (sym is)
read_answers (Err (NoWrite page)) answer is = ap read_outcome (sym is)
read_answers (Err NoMemory) answer is = tt

-- the answer of a snapshot's read
pub snap_read_answers : (snapshots : FinMap nat_cmp FlatMemory) (losses : List Loss) (number : ℕ) (memory : FlatMemory) (address size : ℕ) (read : Result (List ℕ) MemoryFault)
    → get snapshots number ≡ Some memory → losses ≡ [] → Gives read (read_of memory address size)
    → IfOk (bytes_outcome_of read) (λ outcome. outcome ≡ plain_snap_read_outcome (kept_read_of (get snapshots number) losses number address size))
snap_read_answers snapshots losses number memory address size read found whole is =
    let same : read_outcome (read_of memory address size) ≡ plain_snap_read_outcome (kept_read_of (get snapshots number) losses number address size) =
    sym (ap (λ found. plain_snap_read_outcome (kept_read_of found losses number address size)) found
    ∙ ap (λ none. plain_snap_read_outcome (kept_read_of (Some memory) none number address size)) whole ∙ kept_read_is memory number address size) in
    subst (λ (answer : Outcome). IfOk (bytes_outcome_of read) (λ outcome. outcome ≡ answer)) same (read_answers read (read_of memory address size) is)
