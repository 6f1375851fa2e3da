pub mod LeafMap
mod SlotLemmas
mod Acting
mod TouchShapes
mod PageMaps
mod Missing
mod KnownTouch
mod OwnedSlots
mod FlatParts
mod ParentPages
mod PieceByPiece
mod ParentStore
mod Room
mod Again
mod Rows
mod NewTouch
mod SlotChoice
mod Opening
mod RangeLosses
mod LossAt
pub mod SnapshotPages
mod SnapshotPieces
mod LowestLoss
mod Readiness
mod Presence
mod TakenBack
mod WithoutPages
mod RangeRoom
mod RangeSteps
mod HeldFrames
mod RangeEnds
pub mod GoneCell
mod FreedSlots
mod LessShare
mod ClearedCell
mod ClearedTables
mod ClearedSlot
pub mod FirstCell
mod ChangedCells
mod OutOfCell
mod PresentPages
mod UnmapSteps
pub mod ProtectedPages
mod Permissions
mod WrittenPages
mod KeptWriting
mod Vacancies
mod SnapshotShares
mod ForkSlots
mod Changing
mod ForkWants
mod StandingFacts
pub mod ForkedLeaves
mod ForkedTables
pub mod DroppedLeaves
mod DroppedTables
pub mod Known
pub mod view
pub mod enough
