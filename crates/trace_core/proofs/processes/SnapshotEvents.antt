-- What the events of a run leave of the leaves of snapshots, and what page tables show of it.
use Rattle.std.proofs.Common.{◌≡◌, ◌≢◌, ◌⊎◌, ℕ, Bool, true, false, cond, List, [], ◌∷◌, map, length, Option, Some, None, Result, Ok, Err, inl, inr, refl, sym, ◌∙◌, ap, arith}
use Rattle.std.proofs.lemmas.List.{length-map}
use Rattle.std.specs.Prelude.{◌==◌, ◌≤◌, not, is_some, filter, T}
use Rattle.std.specs.Ordering.{nat_cmp}
use Rattle.std.specs.FinMap.{get, is_sorted}
use Rattle.std.proofs.lemmas.Bool.{cases_eq, cases_Bool, eq-eqb, ne_eqb, false≢true}
use Rattle.vm_base.specs.declared.fork_mode.Mode.{Mode}
use Rattle.vm_base.specs.declared.fork_mode.Mode.TheVariants.{Eager}
use Rattle.vm_base.specs.Deals.{Deal}
use Rattle.vm_base.specs.Places.{page_of, page_count, cells_of_range}
use Rattle.vm_base.specs.FlatMemory.{FlatMemory}
use Rattle.vm_base.specs.FlatStep.{Refusal}
use Rattle.kernel_meaning.specs.Requests.{Answer, Requests, RowEnd, asked_in_row}
use Rattle.kernel_meaning.specs.Leaves.{Kept, Own, has_pages, kept_by, with_kept, without_kept}
use Rattle.kernel_meaning.specs.CellActs.{with_fork}
use Rattle.kernel_meaning.specs.FrameLaw.{Leaves, cell_at, lacks_slots, parent_cells}
use Rattle.kernel_meaning.specs.EventRequests.{FrameRefusal, Progress, fork_wants, fork_answered, with_fork_at, snapshot_forked, snapshot_dropped, pages_touched, pages_unmapped, pages_protected}
use Rattle.trace_events.specs.declared.outcome.Outcome.TheVariants.{CellsFull}
use Rattle.page_tables.specs.declared.tables.PageTables.{PageTables}
use Rattle.page_tables.specs.Sides.{Sides}
use Rattle.page_tables.specs.Standing.{AreKept, TablesStandFor}
use Rattle.page_tables.proofs.ForkedLeaves.{cell-forked}
use Rattle.page_tables.proofs.DroppedLeaves.{cell-dropped}
use Rattle.trace_core.specs.KernelState.{Machine, KernelState}
use Rattle.trace_core.specs.EventMeaning.{EventEnd, begun, only_answers, areas_changed, touch_answered, touch_judged}
use Rattle.page_tables.specs.SlotViews.{lost_there, lost_in}
use Rattle.page_tables.proofs.view.TablesShown.{kept-shown, few-kept}
use Rattle.page_tables.proofs.view.ViewSides.{seen-lost}
use Rattle.trace_core.proofs.processes.SnapshotLeaves.{loss_of, IsToldBy, KeepsLeaves, same-keeps, touched-keeps, unmapped-keeps, protected-keeps}
use Rattle.page_tables.specs.TablesView.{views_of, snapshot_has}

-- ---- the events of the parent

-- behind an event that ends so, snapshots have their leaves, but for what its refused requests lost
abbrev pub EndKeeps : KernelState → EventEnd → Type 0
EndKeeps state end = KeepsLeaves state.leaves end.after.leaves end.deals

changed-keeps : (state : KernelState) (result : Result FlatMemory Refusal) (progress : Progress) → KeepsLeaves state.leaves progress.leaves progress.requests.deals
    → EndKeeps state (areas_changed state result progress)
changed-keeps state (Ok memory) progress keeps = keeps
changed-keeps state (Err refusal) progress keeps = same-keeps state.leaves []

module _ (state : KernelState) (answers : List Answer) (result : Result FlatMemory Refusal) where
  -- behind a map
  pub map-keeps-leaves : EndKeeps state (areas_changed state result (begun state answers))
  map-keeps-leaves = changed-keeps state result (begun state answers) (same-keeps state.leaves [])

  -- behind an unmap
  pub unmap-keeps-leaves : (first n : ℕ) → EndKeeps state (areas_changed state result (pages_unmapped first n (begun state answers)))
  unmap-keeps-leaves first n = changed-keeps state result (pages_unmapped first n (begun state answers)) (unmapped-keeps first n (begun state answers))

  -- behind another permission
  pub protect-keeps-leaves : (first n : ℕ) → EndKeeps state (areas_changed state result (pages_protected first n (begun state answers)))
  protect-keeps-leaves first n =
      changed-keeps state result (pages_protected first n (begun state answers)) (protected-keeps first n (begun state answers))

answered-keeps : (state : KernelState) (memory : FlatMemory) (refused : Option FrameRefusal) (progress : Progress)
    → KeepsLeaves state.leaves progress.leaves progress.requests.deals
    → EndKeeps state (touch_answered state memory refused progress)
answered-keeps state memory None progress keeps = keeps
answered-keeps state memory (Some refusal) progress keeps = keeps

-- behind a touch
pub touch-keeps-leaves : (machine : Machine) (state : KernelState) (answers : List Answer) (address n : ℕ) (result : Result FlatMemory Refusal)
    → EndKeeps state (touch_judged machine state answers address n result)
touch-keeps-leaves machine state answers address n (Err refusal) = same-keeps state.leaves []
touch-keeps-leaves machine state answers address n (Ok memory) =
    by (lacks_slots machine.slots state.leaves (cells_of_range address n))
    (answered-keeps state memory (pages_touched (page_of address) (page_count address n) (begun state answers)).refused
    (pages_touched (page_of address) (page_count address n) (begun state answers))
    (touched-keeps (page_of address) (page_count address n) (begun state answers)))
  where
    by : (b : Bool) → let progress : Progress = pages_touched (page_of address) (page_count address n) (begun state answers) in
        EndKeeps state (touch_answered state memory progress.refused progress)
        → EndKeeps state (cond b (only_answers state CellsFull) (touch_answered state memory progress.refused progress))
    by true keeps = same-keeps state.leaves []
    by false keeps = keeps

-- ---- what page tables show

module _ (old new : PageTables) (before after : Sides) (stood : TablesStandFor old before) (stands : TablesStandFor new after)
    (deals : List Deal) (keeps : KeepsLeaves before.leaves after.leaves deals) where
  -- the snapshot has the cells that it had
  pub slots-keep : (c : ℕ) → snapshot_has new c ≡ snapshot_has old c
  slots-keep c =
      let many : length (cell_at after.leaves c).kept ≡ length (cell_at before.leaves c).kept =
      sym (length-map (cell_at after.leaves c).kept (λ (it : Kept). it.number)) ∙ ap length (keeps.numbers c) ∙ length-map (cell_at before.leaves c).kept (λ (it : Kept). it.number) in
      kept-shown new after stands c ∙ ap (λ n. not (n == 0)) many ∙ sym (kept-shown old before stood c)

  -- and what it has lost it had lost before, or a refusal among these deals lost it
  pub lost-keep : (n c at : ℕ) → get (lost_in n (views_of new)) c ≡ Some at → (get (lost_in n (views_of old)) c ≡ Some at) ⊎ IsToldBy deals at
  lost-keep n c at lost = elim (keeps.losses n c at (sym (seen-lost new after stands n c) ∙ lost)) [
    | inl there ↦ inl (seen-lost old before stood n c ∙ there)
    | inr told ↦ inr told
  ]

  -- what it had lost it still has lost
  pub lost-stay : (n c at : ℕ) → get (lost_in n (views_of old)) c ≡ Some at → get (lost_in n (views_of new)) c ≡ Some at
  lost-stay n c at lost = seen-lost new after stands n c ∙ keeps.stays (few-kept old before stood) n c at (sym (seen-lost old before stood n c) ∙ lost)

-- ---- a fork

-- a fork that was granted leaves the cells of the parent forked
pub forked-leaves : (n : ℕ) (mode : Mode) (progress : Progress) → (snapshot_forked n mode progress).refused ≡ None
    → (snapshot_forked n mode progress).leaves ≡ with_fork_at (parent_cells progress.leaves) n mode progress.leaves
forked-leaves n mode progress =
    let row : RowEnd = asked_in_row (fork_wants mode (parent_cells progress.leaves)) progress.requests in by row.refused row.granted row.requests
  where
    by : (refused : Option ℕ) (taken : ℕ) (requests : Requests) → let end : Progress = fork_answered refused taken n mode (record progress { requests = requests }) in
        end.refused ≡ None → end.leaves ≡ with_fork_at (parent_cells progress.leaves) n mode progress.leaves
    by None taken requests granted = refl
    by (Some at) taken requests granted = absurd (false≢true (sym (ap is_some granted)))

-- one that was refused leaves them as they were
pub unforked-leaves : (n : ℕ) (mode : Mode) (progress : Progress) → progress.refused ≡ None → is_some (snapshot_forked n mode progress).refused ≡ true
    → (snapshot_forked n mode progress).leaves ≡ progress.leaves
unforked-leaves n mode progress none =
    let row : RowEnd = asked_in_row (fork_wants mode (parent_cells progress.leaves)) progress.requests in by row.refused row.granted row.requests
  where
    by : (refused : Option ℕ) (taken : ℕ) (requests : Requests) → let end : Progress = fork_answered refused taken n mode (record progress { requests = requests }) in
        is_some end.refused ≡ true → end.leaves ≡ progress.leaves
    by None taken requests there = absurd (false≢true (sym (ap is_some none) ∙ there))
    by (Some at) taken requests there = refl

module _ (n : ℕ) (leaves : Leaves) (sorted : T (is_sorted nat_cmp leaves)) (none : (c : ℕ) → (cell_at leaves c).kept ≡ []) where
  -- behind an eager fork where no snapshot was, the new one has the cells of the parent
  pub forked-numbers : (c : ℕ) → map (λ it. it.number) (cell_at (with_fork_at (parent_cells leaves) n Eager leaves) c).kept ≡ cond (has_pages (cell_at leaves c).parent) (n ∷ []) []
  forked-numbers c = ap (λ cell. map (λ it. it.number) cell.kept) (cell-forked n leaves sorted c) ∙ by (has_pages (cell_at leaves c).parent)
    where
      by : (b : Bool) → map (λ it. it.number) (cond b (with_fork n Eager Own (cell_at leaves c)) (cell_at leaves c)).kept ≡ cond b (n ∷ []) []
      by true = ap (λ kept. map (λ it. it.number) (with_kept (record { number = n; mode = Eager; versions = (cell_at leaves c).parent; leaf = Own }) kept)) (none c)
      by false = ap (map (λ it. it.number)) (none c)

  -- and a cell has it only where the parent has a page there
  pub forked-only : (c : ℕ) → (cell_at (with_fork_at (parent_cells leaves) n Eager leaves) c).kept ≢ [] → has_pages (cell_at leaves c).parent ≡ true
  forked-only c some = elim (cases_Bool (has_pages (cell_at leaves c).parent)) [
    | inl there ↦ there
    | inr gone ↦ absurd (some (ap (λ cell. cell.kept) (cell-forked n leaves sorted c)
        ∙ ap (λ b. (cond b (with_fork n Eager Own (cell_at leaves c)) (cell_at leaves c)).kept) gone ∙ none c))
  ]

  -- it has lost none of them
  pub forked-lost : (m c : ℕ) → loss_of (with_fork_at (parent_cells leaves) n Eager leaves) m c ≡ None
  forked-lost m c = ap (λ cell. lost_there (kept_by cell.kept m)) (cell-forked n leaves sorted c) ∙ by (has_pages (cell_at leaves c).parent)
    where
      new : Kept
      new = record { number = n; mode = Eager; versions = (cell_at leaves c).parent; leaf = Own }

      by : (b : Bool) → lost_there (kept_by (cond b (with_fork n Eager Own (cell_at leaves c)) (cell_at leaves c)).kept m) ≡ None
      by true = ap (λ kept. lost_there (kept_by (with_kept new kept) m)) (none c)
          ∙ elim (n == m) as (λ b. lost_there (cond b (Some new) None) ≡ None) [ true ↦ refl | false ↦ refl ]
      by false = ap (λ kept. lost_there (kept_by kept m)) (none c)

-- ---- a drop

numbers-without : (n : ℕ) (kept : List Kept) → map (λ it. it.number) (without_kept n kept) ≡ filter (λ m. not (m == n)) (map (λ it. it.number) kept)
numbers-without n [] = refl
numbers-without n (it ∷ others) = by (it.number == n) (numbers-without n others)
  where
    by : (b : Bool) → map (λ it. it.number) (without_kept n others) ≡ filter (λ m. not (m == n)) (map (λ it. it.number) others)
        → map (λ it. it.number) (cond (not b) (it ∷ without_kept n others) (without_kept n others))
        ≡ cond (not b) (it.number ∷ filter (λ m. not (m == n)) (map (λ it. it.number) others)) (filter (λ m. not (m == n)) (map (λ it. it.number) others))
    by true rest = rest
    by false rest = ap (λ numbers. it.number ∷ numbers) rest

gone-without : (n : ℕ) (kept : List Kept) → kept_by (without_kept n kept) n ≡ None
gone-without n [] = refl
gone-without n (it ∷ others) = by (it.number == n) refl (gone-without n others)
  where
    by : (b : Bool) → (it.number == n) ≡ b → kept_by (without_kept n others) n ≡ None → kept_by (cond (not b) (it ∷ without_kept n others) (without_kept n others)) n ≡ None
    by true same rest = rest
    by false apart rest = ap (λ b. cond b (Some it) (kept_by (without_kept n others) n)) apart ∙ rest

loss-without : (n m at : ℕ) (kept : List Kept) → lost_there (kept_by (without_kept n kept) m) ≡ Some at → lost_there (kept_by kept m) ≡ Some at
loss-without n m at [] lost = lost
loss-without n m at (it ∷ others) lost = by (cases_eq it.number n) (loss-without n m at others) lost
  where
    absent : m ≡ n → lost_there (kept_by (without_kept n others) m) ≡ None
    absent same = ap (λ m. lost_there (kept_by (without_kept n others) m)) same ∙ ap lost_there (gone-without n others)

    stays : (own : Bool) → (lost_there (kept_by (without_kept n others) m) ≡ Some at → lost_there (kept_by others m) ≡ Some at)
        → lost_there (cond own (Some it) (kept_by (without_kept n others) m)) ≡ Some at → lost_there (cond own (Some it) (kept_by others m)) ≡ Some at
    stays true rest lost = lost
    stays false rest lost = rest lost

    goes : (it.number ≡ n) → (it.number ≡ m) ⊎ (it.number ≢ m) → (lost_there (kept_by (without_kept n others) m) ≡ Some at → lost_there (kept_by others m) ≡ Some at)
        → lost_there (kept_by (without_kept n others) m) ≡ Some at → lost_there (kept_by (it ∷ others) m) ≡ Some at
    goes same (inl own) rest lost = absurd (false≢true (sym (ap is_some (absent (sym own ∙ same))) ∙ ap is_some lost))
    goes same (inr apart) rest lost = ap (λ b. lost_there (cond b (Some it) (kept_by others m))) (ne_eqb it.number m apart) ∙ rest lost

    by : (it.number ≡ n) ⊎ (it.number ≢ n) → (lost_there (kept_by (without_kept n others) m) ≡ Some at → lost_there (kept_by others m) ≡ Some at)
        → lost_there (kept_by (without_kept n (it ∷ others)) m) ≡ Some at → lost_there (kept_by (it ∷ others) m) ≡ Some at
    by (inl same) rest lost =
        goes same (cases_eq it.number m) rest
        (sym (ap (λ b. lost_there (kept_by (cond (not b) (it ∷ without_kept n others) (without_kept n others)) m)) (eq-eqb it.number n same)) ∙ lost)
    by (inr apart) rest lost =
        stays (it.number == m) rest
        (sym (ap (λ b. lost_there (kept_by (cond (not b) (it ∷ without_kept n others) (without_kept n others)) m)) (ne_eqb it.number n apart)) ∙ lost)

module _ (n : ℕ) (progress : Progress) (kept : AreKept progress.leaves) where
  -- behind the drop of snapshot n each cell has the others that it had
  pub dropped-numbers : (c : ℕ) → map (λ it. it.number) (cell_at (snapshot_dropped n progress).leaves c).kept
      ≡ filter (λ m. not (m == n)) (map (λ it. it.number) (cell_at progress.leaves c).kept)
  dropped-numbers c = ap (λ cell. map (λ it. it.number) cell.kept) (cell-dropped n progress.leaves kept c) ∙ numbers-without n (cell_at progress.leaves c).kept

  -- and what they have lost they had lost before
  pub dropped-lost : (m c at : ℕ) → loss_of (snapshot_dropped n progress).leaves m c ≡ Some at → loss_of progress.leaves m c ≡ Some at
  dropped-lost m c at lost =
      loss-without n m at (cell_at progress.leaves c).kept (sym (ap (λ cell. lost_there (kept_by cell.kept m)) (cell-dropped n progress.leaves kept c)) ∙ lost)
