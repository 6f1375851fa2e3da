pub mod Worked
pub mod Shares
pub mod NeverRefused
pub mod DealingLemmas
pub mod CellLog
pub mod PoolLog
