-- The kernel as a memory: what its calls answer and leave, that it is sound, and whose its slots are.
pub mod EventSoundness
pub mod StepSoundness
pub mod KernelMemories
pub mod NewKernels
pub mod WithEnough
pub mod AreaViews
pub mod Touches
pub mod TouchSoundness
pub mod ClauseProps
pub mod AreaCalls
pub mod Reads
pub mod TouchCalls
pub mod SlotUsers
pub mod ParentCells
