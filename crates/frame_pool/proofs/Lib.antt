pub mod ListLemmas
pub mod TurnLemmas
pub mod AskLemmas
pub mod StandingLemmas
pub mod LeftLemmas
pub mod SparingLemmas
pub mod PlaceLemmas
