pub mod Faults
pub mod Folder
pub mod Told
pub mod Reads
pub mod Calls
pub mod Memory
