pub mod Written
pub mod Steps
pub mod Copied
pub mod Doubled
