-- Frames that cells give back.
use Rattle.std.specs.Prelude.{◌≡◌, ℕ, ◌+◌, List}
use Rattle.vm_base.specs.Deals.{Deal, LeadsAlong}
use Rattle.table_levels.specs.Requests.{returned}
use Rattle.page_tables.specs.declared.slot.Slot.{Slot}
use Rattle.page_tables.specs.Held.{shares_in}

-- so many frames were given back as the shares have shrunk by
pub record Returning {State : Type 0} (goes : State → Deal → State → Type 0) (from to : State) (old new : List Slot) : Type 0 where
  pub count : ℕ
  pub led : LeadsAlong goes from (returned count) to
  pub shrunk : count + shares_in new ≡ shares_in old
