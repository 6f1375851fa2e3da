-- Counts of faults are counts of 64 bits, and a call may fail only where one rose.
pub use Rattle.vm_base.specs.Counts.{next_count, Rose}
