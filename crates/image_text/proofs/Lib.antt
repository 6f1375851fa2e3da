-- What the proofs of this crate share.
pub mod Buffers
pub mod Rising
pub mod Writes
