pub mod MemoryLemmas
pub mod ShelfLemmas
pub mod ToldLemmas
