-- The state of a run of the kernel.
use Rattle.std.specs.Prelude.{ℕ, [], Option, None}
use Rattle.vm_base.specs.TwoSides.{World, opening_world}
use Rattle.kernel_meaning.specs.FrameLaw.{Leaves}

-- the machine of a run: how many frames were made, how many cells may be used at once, and how many snapshots may live at once
pub record Machine : Type 0 where
  pub frames : ℕ
  pub slots : ℕ
  pub limit : ℕ

-- the two sides; which page is whose; how many requests for frames were made so far; and the number of the request that the last refuse line names
pub record KernelState : Type 0 where
  pub world : World
  pub leaves : Leaves
  pub made : ℕ
  pub named : Option ℕ

-- nothing has happened; the last snapshot had this number
abbrev pub opening_state : ℕ → KernelState
opening_state last = record { world = opening_world last; leaves = []; made = 0; named = None }
