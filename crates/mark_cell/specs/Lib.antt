pub mod Changes
pub mod OneCopy
