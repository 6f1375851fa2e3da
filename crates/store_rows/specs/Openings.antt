-- Why a store did not begin.
use Rattle.std.specs.Prelude.{◌≡◌, ⊤, ℕ}
use Rattle.vm_base.specs.declared.faults.Fault.{Fault}
use Rattle.vm_base.specs.declared.faults.Fault.TheVariants.{NoFrame}
use Rattle.store_rows.specs.declared.opened.NoStore.{NoStore}
use Rattle.store_rows.specs.declared.opened.NoStore.TheVariants.{NoMemory, Refused}

-- a frame was refused, for the page of the header and for none else
abbrev pub StartFails : Fault → Type 0
StartFails fault = (at : ℕ) × (fault ≡ NoFrame at 512)

-- or there was no memory for the pages
abbrev pub OpeningFails : NoStore → Type 0
OpeningFails NoMemory = ⊤
OpeningFails (Refused fault) = StartFails fault
