-- What follows where a kernel stands for some run that is not named.
use Rattle.std.proofs.Common.{◌≡◌, ◌≤◌, arith}
use Rattle.std.proofs.Math.Logic.{∥∥₁_map}
use Rattle.page_tables.specs.Sides.{Sides}
use Rattle.page_tables.specs.Standing.{TablesStandFor}
use Rattle.page_tables.specs.Held.{frames_of}
use Rattle.page_tables.proofs.Known.{known-number, known-option}
use Rattle.trace_core.specs.KernelState.{Machine, KernelState}
use Rattle.trace_core.specs.KernelStanding.{KernelParts, KernelStands, kept_number, sides_of}
use Rattle.page_tables.specs.TablesView.{snapshot_number}

module _ (parts : KernelParts) (known : ∥ ((machine : Machine) × ((state : KernelState) × KernelStands parts machine state)) ∥₁) where
  -- its tables stand for some sides
  pub known-tables : ∥ ((sides : Sides) × TablesStandFor parts.tables sides) ∥₁
  known-tables = ∥∥₁_map known (λ it. (sides_of it.1.0 it.1.1.pages, it.1.1.tables))

  -- their frames are out
  pub known-lent : frames_of parts.tables ≤ parts.supply.out
  known-lent = let out : parts.supply.out ≡ frames_of parts.tables = known-number known (λ it. it.1.1.out) in omega arith

  -- the tables and the kernel tell one number of the snapshot that lives
  pub known-snapshot : snapshot_number parts.tables ≡ kept_number parts.snapshot
  known-snapshot = known-option known (λ it. it.1.1.number)
