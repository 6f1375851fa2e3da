pub mod Policies
pub mod Frames
pub mod OneDenial
pub mod Turns
pub mod Quotas
