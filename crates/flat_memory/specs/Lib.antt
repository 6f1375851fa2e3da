pub mod Entries
pub mod Pages
pub mod SideSeen
pub mod Answers
pub mod FlatSeen
pub mod FlatLaws
pub mod FlatProps
