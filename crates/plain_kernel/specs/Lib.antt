pub mod Pages
pub mod PlainMemory
pub mod PlainAnswers
pub mod Sides
pub mod KernelStep
