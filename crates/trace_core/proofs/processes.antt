-- The kernel as a process and as the nest of its snapshot: what is told of a child, what is noted of it, and what no call undoes.
pub mod Children
pub mod ForkCalls
pub mod Nests
pub mod SnapshotLeaves
pub mod SnapshotEvents
pub mod NoteCalls
pub mod NoteEvents
pub mod KernelProcesses
pub mod CallCourses
pub mod Waits
