-- What is defined of a directory of tables: its entries, the walk through it, and its frame requests.
pub mod Tables
pub mod Cells
pub mod Walks
pub mod Requests
pub mod Fresh
pub mod Links
pub mod Copies
pub mod First
