-- The kernel on plain pages takes a fork, where none was made since a map from which it began.
use Rattle.std.proofs.Common.{◌≡◌, ℕ, ◌<◌, refl, ◌∙◌, ap, arith}
use Rattle.std.specs.Prelude.{Result, Ok, Err}
use Rattle.std.specs.FinMap.{len, len-empty}
use Rattle.std.specs.Ordering.{nat_cmp}
use Rattle.vm_base.specs.declared.permission.Perm.{Perm}
use Rattle.vm_base.specs.FlatMemory.{FlatMemory}
use Rattle.vm_base.specs.FlatStep.{Refusal, map_of}
use Rattle.vm_base.specs.TwoSides.{World, opening_world}
use Rattle.plain_kernel.specs.declared.event.Event.TheVariants.{Map}
use Rattle.plain_kernel.specs.KernelStep.{changed, world_after}

-- a change of the parent leaves the snapshots as they are
same_snapshots : (world : World) (answer : Result FlatMemory Refusal)
    → ((changed world answer).snapshots ≡ world.snapshots) × ((changed world answer).last ≡ world.last)
same_snapshots world (Ok memory) = (refl, refl)
same_snapshots world (Err refusal) = (refl, refl)

pub forks_behind : (opening mapped now : World) (first pages : ℕ) (perm : Perm) → opening ≡ opening_world 0
    → mapped ≡ world_after opening (Map first pages perm)
    → (now.snapshots ≡ mapped.snapshots) × (now.last ≡ mapped.last) → (now.last < 1) × (len now.snapshots ≡ 0)
forks_behind opening mapped now first pages perm opens maps kept =
    let same = same_snapshots opening (map_of opening.parent first pages perm) in
    let last : now.last ≡ 0 = kept.1 ∙ ap (λ (world : World). world.last) maps ∙ same.1 ∙ ap (λ (world : World). world.last) opens in (
      omega (arith, last),
      ap (λ snapshots. len snapshots)
          (kept.0 ∙ ap (λ (world : World). world.snapshots) maps ∙ same.0 ∙ ap (λ (world : World). world.snapshots) opens)
          ∙ len-empty nat_cmp FlatMemory,
    )
