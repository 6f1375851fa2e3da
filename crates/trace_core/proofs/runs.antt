-- The meaning of runs: what events count, how they go on one after another, and that a list of refused requests tells a run.
pub mod Tallies
pub mod EventCounts
pub mod Dealings
pub mod RunLemmas
pub mod SupplyRuns
pub mod ShortRuns
pub mod RunSteps
pub mod RefusalLists
pub mod LastNumbers
