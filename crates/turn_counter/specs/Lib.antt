pub mod Additions
pub mod Replies
pub mod Jobs
