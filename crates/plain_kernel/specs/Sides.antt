-- How a kernel on plain pages stands for a world with at most one snapshot.
use Rattle.std.specs.Prelude.{ℕ, Option, Some, None}
use Rattle.std.specs.Ordering.{nat_cmp}
use Rattle.std.specs.FinMap.{FinMap, empty, insert}
use Rattle.vm_base.specs.FlatMemory.{FlatMemory}
use Rattle.plain_kernel.specs.declared.kernel.Snapshot.{Snapshot}

-- the snapshot that lives
abbrev pub snapshots_of : Option Snapshot → FinMap nat_cmp FlatMemory
snapshots_of None = empty
snapshots_of (Some snapshot) = insert empty snapshot.number snapshot.memory

-- its refused copies: none
abbrev pub copies_of : Option Snapshot → FinMap nat_cmp ℕ
copies_of None = empty
copies_of (Some snapshot) = insert empty snapshot.number 0
