pub mod Lists
pub mod Keeps
pub mod Given
pub mod Making
