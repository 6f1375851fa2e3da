-- What is defined of RESP2: requests, replies, and what a reader of requests has.
pub mod Grammar
pub mod Breaks
pub mod Pieces
pub mod Reading
pub mod Lines
pub mod Residual
pub mod Words
pub mod Fronts
pub mod Replies
