pub mod HeapUses
