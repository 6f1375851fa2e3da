pub mod EntryLemmas
pub mod PageLemmas
pub mod RangeLemmas
pub mod UsedSlots
pub mod FlatStands
pub mod FlatCalls
