pub mod Slots
pub mod Absent
pub mod Storing
pub mod FirstArea
pub mod OneSnapshot
