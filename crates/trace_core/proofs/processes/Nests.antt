-- The kernel as the nest of its snapshot: a read of the snapshot answers by the memory at its fork and the cells that it has lost.
use Rattle.std.proofs.Common.{◌≡◌, ℕ, Bool, true, false, eqb, List, [], ◌∷◌, Option, Some, None, Result, Ok, Err, refl, sym, ◌∙◌, ap, subst, arith}
use Rattle.std.specs.Prelude.{length, not, ◌==◌, if◌then◌else◌, is_some, IsTrue, ◌<◌}
use Rattle.std.specs.Ordering.{nat_cmp}
use Rattle.std.specs.Cmp.{nat_cmp_total}
use Rattle.std.specs.Coded.{Coded-set, code_by, coded×, coded_ℕ, coded_list, coded_result}
use Rattle.std.specs.FinMap.{get, empty, get-empty, same_map, nat_cmp-IsAntisymmetric}
use Rattle.std.proofs.Math.Logic.{∥∥₁_elim}
use Rattle.std.proofs.lemmas.Bool.Decides.{nat_tests}
use mathlib.Core.HLevel.{⊥_prop}
use Rattle.std.specs.Option.{option_or}
use Rattle.std.proofs.lemmas.Bool.{false≢true}
use Rattle.vm_base.specs.declared.faults.SnapFault.{SnapFault}
use Rattle.vm_base.specs.declared.faults.SnapFault.TheVariants.{NoArea, Lost}
use Rattle.vm_base.specs.Places.{page_of, page_count, cells_of_range}
use Rattle.vm_base.specs.FlatMemory.{FlatMemory, bytes_at}
use Rattle.vm_base.specs.FlatStep.{outside}
use Rattle.vm_base.specs.TwoSides.{SnapRefusal, NotLive, OutsideSnapshot, CellLost, first_loss, or_snap_refused, kept_read_of, snap_read_of}
use Rattle.vm_base.specs.SnapshotState.{SnapshotState, KeepsSnapshot, IsFoundSince, first_found, unless_fault, snapshot_answer}
use Rattle.kernel_meaning.specs.Leaves.{Kept, kept_by, holds_number}
use Rattle.kernel_meaning.specs.FrameLaw.{cell_at, losses_of}
use Rattle.page_tables.specs.declared.loss.LostCell.{LostCell}
use Rattle.page_tables.specs.Accesses.{IsLowestLoss}
use Rattle.page_tables.specs.Sides.{Sides}
use Rattle.page_tables.specs.Standing.{TablesStandFor}
use Rattle.page_tables.proofs.view.TablesShown.{kept-shown, some-length}
use Rattle.page_tables.proofs.SnapshotPages.{loss-there}
use Rattle.trace_core.specs.declared.parts.SnapshotAreas.{SnapshotAreas}
use Rattle.trace_core.specs.declared.snapshots.SnapshotFault.{SnapshotFault}
use Rattle.trace_core.specs.declared.snapshots.SnapshotFault.TheVariants as fault
use Rattle.trace_core.specs.KernelState.{Machine, KernelState}
use Rattle.trace_core.specs.KernelStanding.{KernelParts, KernelStands, kept_number, sides_of}
use Rattle.trace_core.specs.WentOn.{goes_on-none}
use Rattle.trace_core.specs.KernelSeen.{KernelNotes, IsSound, IsKernelNoted, NotesHold, kept_memory, kept_in, nest_of}
use Rattle.trace_core.specs.SnapshotAnswers.{snap_read_answer}
use Rattle.page_tables.specs.SlotViews.{lost_in}
use Rattle.trace_core.proofs.memories.ClauseProps.{option-prop, test-prop}
use Rattle.page_tables.proofs.view.ViewSides.{seen-lost, lost-seen}
use Rattle.trace_core.proofs.processes.Children.{sound-kept}
use Rattle.page_tables.specs.TablesView.{views_of, snapshot_has}

-- the snapshot that lives, with the memory at its fork and the cells that it has lost
abbrev nest_kept : KernelParts → KernelNotes → SnapshotAreas → SnapshotState
nest_kept parts notes kept = record {
  mem = kept_memory kept notes.forked;
  found = lost_in kept.number (views_of parts.tables);
  refused = kept.refused;
  todo = 0;
  passed = true;
  whole = true;
}

-- the answer of a snapshot, as a read of the world tells it
abbrev told : Result (List ℕ) SnapFault → Result (List ℕ) SnapRefusal
told (Ok bytes) = Ok bytes
told (Err (NoArea page)) = Err (OutsideSnapshot page)
told (Err (Lost at)) = Err (CellLost at)

-- and back
abbrev untold : Result (List ℕ) SnapRefusal → Option (Result (List ℕ) SnapFault)
untold (Ok bytes) = Some (Ok bytes)
untold (Err NotLive) = None
untold (Err (OutsideSnapshot page)) = Some (Err (NoArea page))
untold (Err (CellLost at)) = Some (Err (Lost at))

untold-told : (answer : Result (List ℕ) SnapFault) → untold (told answer) ≡ Some answer
untold-told (Ok bytes) = refl
untold-told (Err (NoArea page)) = refl
untold-told (Err (Lost at)) = refl

same-told : (out lost : Option ℕ) (bytes : List ℕ)
    → or_snap_refused OutsideSnapshot out (or_snap_refused CellLost lost (Ok bytes)) ≡ told (unless_fault NoArea out (unless_fault Lost lost (Ok bytes)))
same-told None None bytes = refl
same-told None (Some at) bytes = refl
same-told (Some page) lost bytes = refl

some-answer : {one other : Result (List ℕ) SnapFault} → ◌≡◌ {A = Option (Result (List ℕ) SnapFault)} (Some one) (Some other) → one ≡ other
some-answer {one = one} same = ap (λ o. elim o [ None ↦ one | Some answer ↦ answer ]) same

module _ (parts : KernelParts) (notes : KernelNotes) (machine : Machine) (state : KernelState) (sound : IsSound parts notes machine state) (kept : SnapshotAreas) (lives : parts.snapshot ≡ Some kept) where
  -- the first lost cell is the first that was found lost
  pub first-lost : (cells : List ℕ) → first_loss (losses_of state.leaves) kept.number cells ≡ first_found (lost_in kept.number (views_of parts.tables)) cells
  first-lost [] = refl
  first-lost (cell ∷ cells) =
      let here = loss-there parts.tables (sides_of state sound.stands.pages) sound.stands.tables cell kept.number
      ∙ sym (seen-lost parts.tables (sides_of state sound.stands.pages) sound.stands.tables kept.number cell) in
      (λ i. option_or (here i) (first-lost cells i))

  -- a read of the world answers as the nest does
  read-told : (addr len : ℕ) → snap_read_of state.world kept.number addr len ≡ told (snapshot_answer (nest_kept parts notes kept) addr len)
  read-told addr len =
      let memory : FlatMemory = kept_memory kept notes.forked in
      let out : Option ℕ = outside kept.areas (page_of addr) (page_count addr len) in
      let bytes : List ℕ = bytes_at memory.present addr len in
      ap (λ o. kept_read_of o state.world.losses kept.number addr len) (sound-kept parts notes machine state sound kept lives)
      ∙ ap (λ losses. or_snap_refused OutsideSnapshot out (or_snap_refused CellLost (first_loss losses kept.number (cells_of_range addr len)) (Ok bytes))) sound.stands.losses
      ∙ ap (λ lost. or_snap_refused OutsideSnapshot out (or_snap_refused CellLost lost (Ok bytes))) (first-lost (cells_of_range addr len))
      ∙ same-told out (first_found (lost_in kept.number (views_of parts.tables)) (cells_of_range addr len)) bytes

  module _ (number addr len : ℕ) (result : Result (Unit {0}) SnapshotFault) (buf : List ℕ) (same : kept.number ≡ number) (read : snap_read_of state.world number addr len ≡ snap_read_answer result buf) where
    answer-is : Some (snapshot_answer (nest_kept parts notes kept) addr len) ≡ untold (snap_read_answer result buf)
    answer-is =
        sym (untold-told (snapshot_answer (nest_kept parts notes kept) addr len)) ∙ ap untold (sym (read-told addr len) ∙ ap (λ n. snap_read_of state.world n addr len) same ∙ read)

    -- the bytes that were read are the nest's
    nest-bytes : (done : Unit {0}) → result ≡ Ok done → snapshot_answer (nest_kept parts notes kept) addr len ≡ Ok buf
    nest-bytes done is = some-answer (answer-is ∙ ap (λ result. untold (snap_read_answer result buf)) is)

    -- a page lay in no area
    nest-outside : (page : ℕ) → result ≡ Err (fault.NoArea page) → snapshot_answer (nest_kept parts notes kept) addr len ≡ Err (NoArea page)
    nest-outside page is = some-answer (answer-is ∙ ap (λ result. untold (snap_read_answer result buf)) is)

    -- a cell is lost
    nest-lost : (at : ℕ) → result ≡ Err (fault.Lost at) → snapshot_answer (nest_kept parts notes kept) addr len ≡ Err (Lost at)
    nest-lost at is = some-answer (answer-is ∙ ap (λ result. untold (snap_read_answer result buf)) is)

    -- the snapshot that lives is found
    nest-lives : result ≡ Err fault.NotLive → ⊥
    nest-lives is = false≢true (ap is_there (sym (answer-is ∙ ap (λ result. untold (snap_read_answer result buf)) is)))
      where
        is_there : Option (Result (List ℕ) SnapFault) → Bool
        is_there None = false
        is_there (Some answer) = true

-- ---- a snapshot that lives under its number

-- the snapshot that lives has this number
record Lives (parts : KernelParts) (number : ℕ) : Type 0 where
  kept : SnapshotAreas
  lives : parts.snapshot ≡ Some kept
  same : kept.number ≡ number

who-lives : (parts : KernelParts) (number : ℕ) → IsTrue (holds_number (kept_number parts.snapshot) number) → Lives parts number
who-lives parts number held = by parts.snapshot refl held
  where
    by : (snapshot : Option SnapshotAreas) → parts.snapshot ≡ snapshot → IsTrue (holds_number (kept_number snapshot) number) → Lives parts number
    by None none held = absurd (false≢true held)
    by (Some kept) lives held = record { kept = kept; lives = lives; same = (let t : eqb kept.number number ≡ true = held in grind (arith, nat_tests)) }

-- the answers of snapshots are told apart
abbrev fault_numbers : SnapFault → ℕ × ℕ
fault_numbers (NoArea page) = (0, page)
fault_numbers (Lost at) = (1, at)

abbrev fault_of_numbers : ℕ × ℕ → SnapFault
fault_of_numbers p = if p.0 == 0 then NoArea p.1 else Lost p.1

fault_again : (why : SnapFault) → fault_of_numbers (fault_numbers why) ≡ why
fault_again (NoArea page) = refl
fault_again (Lost at) = refl

answer-prop : (one other : Result (List ℕ) SnapFault) → IsProp (one ≡ other)
answer-prop one other = Coded-set (coded_result (coded_list coded_ℕ) (code_by (ℕ × ℕ) (coded× coded_ℕ coded_ℕ) fault_numbers fault_of_numbers fault_again)) one other

module _ (parts : KernelParts) (notes : KernelNotes) (number : ℕ) (known : ∥ IsKernelNoted parts notes ∥₁) (held : IsTrue (holds_number (kept_number parts.snapshot) number)) where
  -- the nest tells of it what was kept
  told-alike : (addr len : ℕ) (its : Lives parts number) → snapshot_answer (nest_of parts notes number) addr len ≡ snapshot_answer (nest_kept parts notes its.kept) addr len
  told-alike addr len its = λ i. snapshot_answer (record {
    mem = kept_in (its.lives i) notes.forked;
    found = lost_in (sym its.same i) (views_of parts.tables);
    refused = 0;
    todo = 0;
    passed = true;
    whole = true;
  }) addr len

  module _ (addr len : ℕ) (result : Result (Unit {0}) SnapshotFault) (buf : List ℕ)
      (read : (machine : Machine) (state : KernelState) → KernelStands parts machine state → snap_read_of state.world number addr len ≡ snap_read_answer result buf) where
    -- the bytes that were read are those at the fork
    pub read-bytes : (done : Unit {0}) → result ≡ Ok done → snapshot_answer (nest_of parts notes number) addr len ≡ Ok buf
    read-bytes done is = ∥∥₁_elim known (answer-prop _ _) (λ it.
        let its : Lives parts number = who-lives parts number held in
        told-alike addr len its ∙ nest-bytes parts notes it.0 it.1.0 it.1.1 its.kept its.lives number addr len result buf its.same (read it.0 it.1.0 it.1.1.stands) done is)

    -- a page lay in no area then
    pub read-outside : (page : ℕ) → result ≡ Err (fault.NoArea page) → snapshot_answer (nest_of parts notes number) addr len ≡ Err (NoArea page)
    read-outside page is = ∥∥₁_elim known (answer-prop _ _) (λ it.
        let its : Lives parts number = who-lives parts number held in
        told-alike addr len its ∙ nest-outside parts notes it.0 it.1.0 it.1.1 its.kept its.lives number addr len result buf its.same (read it.0 it.1.0 it.1.1.stands) page is)

    -- a cell is lost
    pub read-lost : (at : ℕ) → result ≡ Err (fault.Lost at) → snapshot_answer (nest_of parts notes number) addr len ≡ Err (Lost at)
    read-lost at is = ∥∥₁_elim known (answer-prop _ _) (λ it.
        let its : Lives parts number = who-lives parts number held in
        told-alike addr len its ∙ nest-lost parts notes it.0 it.1.0 it.1.1 its.kept its.lives number addr len result buf its.same (read it.0 it.1.0 it.1.1.stands) at is)

    -- the snapshot that lives is found
    pub read-lives : result ≡ Err fault.NotLive → ⊥
    read-lives is = ∥∥₁_elim known ⊥_prop (λ it.
        let its : Lives parts number = who-lives parts number held in
        nest-lives parts notes it.0 it.1.0 it.1.1 its.kept its.lives number addr len result buf its.same (read it.0 it.1.0 it.1.1.stands) is)

-- ---- what the nest keeps

-- a cell that a snapshot has lost is one of its directory
some-kept : (kept : List Kept) (n : ℕ) (it : Kept) → kept_by kept n ≡ Some it → not (length kept == 0) ≡ true
some-kept [] n it found = absurd (false≢true (ap is_some found))
some-kept (other ∷ kept) n it found = some-length other kept

slot-of-lost : (parts : KernelParts) (machine : Machine) (state : KernelState) (stands : KernelStands parts machine state) (n c at : ℕ)
    → get (lost_in n (views_of parts.tables)) c ≡ Some at → IsTrue (snapshot_has parts.tables c)
slot-of-lost parts machine state stands n c at lost =
    let there = lost-seen parts.tables (sides_of state stands.pages) stands.tables n c at lost in
    kept-shown parts.tables (sides_of state stands.pages) stands.tables c ∙ some-kept (cell_at state.leaves c).kept n there.0 there.1.0

module _ (parts : KernelParts) (notes : KernelNotes) (number : ℕ) (known : ∥ IsKernelNoted parts notes ∥₁) (holds : NotesHold parts notes) where
  -- a call that changes nothing keeps the snapshot
  pub nest-keeps : KeepsSnapshot (nest_of parts notes number) (nest_of parts notes number)
  nest-keeps = record {
    goes_on = goes_on-none (nest_of parts notes number);
    cells = λ c at e. holds.cells c (∥∥₁_elim known (test-prop (snapshot_has parts.tables c) true) (λ it. slot-of-lost parts it.0 it.1.0 it.1.1.stands number c at e));
    unskipped = λ whole. whole;
  }

  -- what it has lost it lost behind its fork
  pub nest-since : IsFoundSince notes.born parts.supply.refused (nest_of parts notes number)
  nest-since = λ c at e. holds.since number c at e

module _ (parts : KernelParts) (notes : KernelNotes) (number : ℕ) (known : ∥ IsKernelNoted parts notes ∥₁) (result : Option LostCell)
    (lowest : (sides : Sides) → TablesStandFor parts.tables sides → IsLowestLoss sides.leaves number result) where
  -- the cell that is told is lost
  pub copy-lost : (lost : LostCell) → result ≡ Some lost → get (lost_in number (views_of parts.tables)) lost.cell ≡ Some lost.at
  copy-lost lost is = ∥∥₁_elim known (option-prop _ _) (λ it.
      let sides : Sides = sides_of it.1.0 it.1.1.stands.pages in
      seen-lost parts.tables sides it.1.1.stands.tables number lost.cell ∙ (subst (IsLowestLoss sides.leaves number) is (lowest sides it.1.1.stands.tables)).0)

  -- and no lower one is
  pub copy-lowest : (lost : LostCell) → result ≡ Some lost → (other : ℕ) → other < lost.cell → get (lost_in number (views_of parts.tables)) other ≡ None
  copy-lowest lost is other below = ∥∥₁_elim known (option-prop _ _) (λ it.
      let sides : Sides = sides_of it.1.0 it.1.1.stands.pages in
      seen-lost parts.tables sides it.1.1.stands.tables number other ∙ (subst (IsLowestLoss sides.leaves number) is (lowest sides it.1.1.stands.tables)).1 other below)

  -- where none is told, none is
  pub copy-none : result ≡ None → lost_in number (views_of parts.tables) ≡ empty
  copy-none is = same_map nat_cmp_total nat_cmp-IsAntisymmetric _ _ (λ c. ∥∥₁_elim known (option-prop _ _) (λ it.
      let sides : Sides = sides_of it.1.0 it.1.1.stands.pages in
      seen-lost parts.tables sides it.1.1.stands.tables number c ∙ subst (IsLowestLoss sides.leaves number) is (lowest sides it.1.1.stands.tables) c) ∙ sym (get-empty nat_cmp c))
