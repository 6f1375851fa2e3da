pub mod Sums
pub mod Hands
