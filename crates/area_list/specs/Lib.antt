-- What is defined of lists of areas beyond the flat memory's own definitions.
pub mod AreaList
pub mod Pieces
pub mod Calls
pub mod Answers
pub mod Laws
