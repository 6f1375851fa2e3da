pub mod PlainForks
pub mod UnforkedNumbers
