pub mod Ending
pub mod Folder
