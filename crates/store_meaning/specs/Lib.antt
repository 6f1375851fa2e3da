pub mod Layout
pub mod HeapLayout
pub mod HashLayout
pub mod Owned
pub mod StoreSteps
pub mod Reach
pub mod Standing
