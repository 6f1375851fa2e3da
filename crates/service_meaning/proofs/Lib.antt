-- Worked cases of the definitions, and what proofs of the code cite.
mod Worked
pub mod Finding
