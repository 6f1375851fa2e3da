-- How each event of a kernel ends: a touch, a write, a change of areas, a fork, a copy, a drop, a read of the snapshot.
pub mod Writes
pub mod Stores
pub mod AreaChanges
pub mod AreaSteps
pub mod OneSnapshot
pub mod Copies
pub mod SnapshotReads
pub mod WholeEvents
pub mod Drops
pub mod Forks
pub mod KernelFacts
pub mod LastRefusals
pub mod ReadyWrites
