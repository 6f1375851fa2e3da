-- What is defined of the service: its commands, its histories, and what is sent, reported and published.
pub mod Shapes
pub mod Commands
pub mod Integers
pub mod MapMachine
pub mod History
pub mod SessionText
pub mod SaveEnd
