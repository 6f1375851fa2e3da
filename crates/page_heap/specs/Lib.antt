pub mod HeapCalls
