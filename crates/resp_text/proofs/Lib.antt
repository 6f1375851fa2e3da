-- What the proofs of this crate share.
pub mod Buffers
pub mod FrontTexts
pub mod Residuals
pub mod Steps
pub mod Histories
pub mod Scans
pub mod Texts
pub mod Grammars
pub mod Completions
pub mod PieceLaws
pub mod Feeds
pub mod Fronts
pub mod Spellings
pub mod Breaks
pub mod Readings
