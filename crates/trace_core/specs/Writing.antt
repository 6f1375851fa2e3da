-- Which pages of the parent may be written to behind a call, as their entries tell.
use Rattle.std.specs.Prelude.{◌≡◌, ℕ, ◌-◌, Result, Ok, Err}
use Rattle.vm_base.specs.declared.faults.Fault.{Fault}
use Rattle.vm_base.specs.declared.faults.Fault.TheVariants as fault
use Rattle.vm_base.specs.Places.{page_of, page_count}
use Rattle.page_tables.specs.declared.tables.PageTables.{PageTables}
use Rattle.page_tables.specs.Permissions.{LetsWrite, KeepsWriting, LetsNoneWrite, LetsPresentWrite, StopsWritingBefore}
use Rattle.trace_events.specs.declared.outcome.Outcome.{Outcome}
use Rattle.trace_core.specs.declared.snapshots.ForkRefusal.{ForkRefusal}
use Rattle.trace_core.specs.declared.snapshots.ForkRefusal.TheVariants as refusal
use Rattle.trace_core.specs.TouchAnswers.{touch_outcome}

-- behind a touch of bytes from an address on that was refused: where a page lacked a frame, of those before it the ones that were present; else just those that might before
abbrev pub WritesAfterFault : ℕ → Fault → PageTables → PageTables → Type 0
WritesAfterFault address (fault.NoFrame at page) old new = LetsPresentWrite (page_of address) (page - page_of address) old new
WritesAfterFault address other old new = KeepsWriting old new

-- behind a touch of a range of bytes: its pages too, unless it was refused
abbrev pub WritesAfterTouch : ℕ → ℕ → Result (Unit {0}) Fault → PageTables → PageTables → Type 0
WritesAfterTouch address n (Ok done) old new = LetsWrite (page_of address) (page_count address n) old new
WritesAfterTouch address n (Err refused) old new = WritesAfterFault address refused old new

-- behind a write of n bytes: what a touch of them leaves that answered so
abbrev pub WritesAfterWrite : ℕ → ℕ → Outcome → PageTables → PageTables → Type 0
WritesAfterWrite address n outcome old new = (answer : Result (Unit {0}) Fault) × ((outcome ≡ touch_outcome answer) × WritesAfterTouch address n answer old new)

-- behind a fork that was refused: none in the slots that it had forked, or just those that might before
abbrev pub WritesAfterRefusal : ForkRefusal → PageTables → PageTables → Type 0
WritesAfterRefusal (refusal.NoFrame at) old new = StopsWritingBefore old new
WritesAfterRefusal refusal.TooMany old new = KeepsWriting old new

-- behind a fork: none, unless it was refused
abbrev pub WritesAfterSnapshot : Result (Unit {0}) ForkRefusal → PageTables → PageTables → Type 0
WritesAfterSnapshot (Ok done) old new = LetsNoneWrite new
WritesAfterSnapshot (Err refused) old new = WritesAfterRefusal refused old new
