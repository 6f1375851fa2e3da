pub mod Openings
mod WantedMemory
