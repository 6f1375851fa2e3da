-- What is defined of a run of the kernel, and of where its frames come from.
pub mod SupplyState
pub mod DealtSupply
pub mod Answering
pub mod KernelStanding
pub mod KernelSeen
pub mod KernelState
pub mod EventMeaning
pub mod RunMeaning
pub mod Supplied
pub mod KernelRun
pub mod SnapshotAnswers
pub mod TouchAnswers
pub mod CallAnswers
pub mod Housed
pub mod KernelWent
pub mod WentOn
pub mod Writing
