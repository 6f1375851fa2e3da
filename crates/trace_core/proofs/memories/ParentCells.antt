-- The parent of a kernel has a page in each cell of its directory.
use Rattle.std.proofs.Common.{◌≡◌, ℕ, zero, suc, ◌+◌, ◌*◌, ◌/◌, ◌%◌, ◌<◌, true, eqb, List, [], ◌∷◌, length, Some, None, inl, inr, refl, sym, ◌∙◌, ap, arith}
use Rattle.std.specs.Prelude.{◌==◌, IsSome, is_some, Result, Ok, Err, IfOk}
use Rattle.std.specs.List.{list_any}
use Rattle.std.specs.FinMap.{get, keys}
use Rattle.std.proofs.lemmas.Bool.{eqb-true, eq-eqb, or_cases, or_left, or_right, false≢true}
use Rattle.std.proofs.Math.Logic.{∥∥₁_elim}
use Rattle.vm_base.specs.Places.{cell_of}
use Rattle.vm_base.specs.FlatMemory.{cells_of}
use Rattle.vm_base.specs.MemoryState.{IsListed}
use Rattle.kernel_meaning.specs.Leaves.{Versions, version_at, has_pages}
use Rattle.kernel_meaning.specs.FrameLaw.{cell_at}
use Rattle.kernel_meaning.specs.EventRequests.{page_version}
use Rattle.page_tables.specs.Sides.{Sides}
use Rattle.trace_events.specs.declared.event.Event.{Event}
use Rattle.trace_events.specs.declared.outcome.Outcome.{Outcome}
use Rattle.trace_core.specs.KernelState.{Machine, KernelState}
use Rattle.trace_core.specs.KernelStanding.{KernelParts, KernelStands, IsKernel, sides_of}
use Rattle.trace_core.specs.KernelSeen.{parent_of, is_new_fork}
use Rattle.trace_core.proofs.memories.ClauseProps.{test-prop}
use Rattle.trace_core.proofs.processes.NoteEvents.{AreFilled}
use Rattle.vm_base.proofs.OwnFrames.{member, member-map, member-keys}
use Rattle.page_tables.proofs.view.TablesShown.{cell-shown}
use Rattle.page_tables.proofs.view.ViewSides.{seen-pages}
use Rattle.page_tables.proofs.enough.WholeCells.{whole-versions}
use Rattle.page_tables.specs.TablesView.{pages_of}

-- versions of some page have one
page-of : (versions : Versions) → has_pages versions ≡ true → (p : ℕ) × ((p < length versions) × IsSome (version_at versions p))
page-of [] some = absurd (false≢true some)
page-of (None ∷ versions) some = let rest = page-of versions some in (suc rest.0, (omega (arith, rest.1.0), rest.1.1))
page-of (Some version ∷ versions) some = (zero, (omega arith, refl))

-- a member is listed
listed-member : (c : ℕ) (xs : List ℕ) → member c xs ≡ true → IsListed c xs
listed-member c [] there = there
listed-member c (x ∷ xs) there = elim (or_cases (eqb c x) (member c xs) there) [
  | inl here ↦ or_left (x == c) (list_any (λ other. other == c) xs) (eq-eqb x c (sym (eqb-true c x here)))
  | inr later ↦ or_right (x == c) (list_any (λ other. other == c) xs) (listed-member c xs later)
]

module _ (parts : KernelParts) (machine : Machine) (state : KernelState) (stands : KernelStands parts machine state) where
  abbrev sides : Sides
  sides = sides_of state stands.pages

  stands-filled : AreFilled parts
  stands-filled c there =
      let found = page-of (cell_at state.leaves c).parent (sym (cell-shown parts.tables sides stands.tables c) ∙ there) in
      let small : found.0 < 512 = omega (arith, found.1.0, stands.tables.kept.sizes c) in
      let page : ℕ = c * 512 + found.0 in
      let cell : page / 512 ≡ c = omega (arith, small) in
      let place : page % 512 ≡ found.0 = omega (arith, small) in
      let version : IsSome (page_version state.leaves page) =
      ap (λ d. is_some (version_at (cell_at state.leaves d).parent (page % 512))) cell ∙ ap (λ p. is_some (version_at (cell_at state.leaves c).parent p)) place ∙ found.1.1 in
      let present : IsSome (get state.world.parent.present page) = whole-versions parts.tables sides stands.tables page ∙ version in
      let seen : pages_of parts.tables ≡ state.world.parent.present = seen-pages parts.tables sides stands.tables in
      listed-member c (cells_of (parent_of parts))
      (ap (λ d. member d (cells_of (parent_of parts))) (sym cell)
      ∙ member-map cell_of page (keys (pages_of parts.tables)) (member-keys (pages_of parts.tables) page ∙ ap (λ pages. is_some (get pages page)) seen ∙ present))

-- the parent of a kernel has a page in each cell of its directory
pub cells-filled : (parts : KernelParts) → ∥ IsKernel parts ∥₁ → AreFilled parts
cells-filled parts known c there =
    ∥∥₁_elim known (test-prop (list_any (λ other. other == c) (cells_of (parent_of parts))) true) (λ it. stands-filled parts it.0 it.1.0 it.1.1 c there)

-- so it is before a step, whatever that answers
pub filled-step : (event : Event) {E : Type 0} (result : Result Outcome E) (parts : KernelParts) → AreFilled parts → IfOk result (λ outcome. is_new_fork event outcome ≡ true → AreFilled parts)
filled-step event (Ok outcome) parts filled = λ fork. filled
filled-step event (Err e) parts filled = tt
