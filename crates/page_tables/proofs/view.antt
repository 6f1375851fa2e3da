-- What those above page tables cite: what is read off views, and what page tables show of the two sides.
pub mod ViewReads
pub mod TablesShown
pub mod ViewSides
pub mod PageShares
pub mod TouchCells
pub mod RefusalPages
pub mod ReadyPages
