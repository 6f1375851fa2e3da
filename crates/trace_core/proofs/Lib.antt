-- The lemmas by subject. The README says which of them carries which promise.
pub mod runs
pub mod supplies
pub mod events
pub mod memories
pub mod processes
pub mod enough
