-- How many frames are out where a request is refused: what the parent and its snapshots would take alone.
pub mod CellSums
pub mod PageCounts
pub mod Pairs
pub mod Cells
pub mod CellFrames
pub mod SharedPages
pub mod TouchRequests
pub mod Deals
pub mod ForkRequests
pub mod SnapshotFrames
pub mod ParentFrames
pub mod WholeCells
