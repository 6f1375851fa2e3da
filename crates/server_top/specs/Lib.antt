pub mod CommandWords
pub mod RunPromise
pub mod ReplayPromise
pub mod ReplayRun
