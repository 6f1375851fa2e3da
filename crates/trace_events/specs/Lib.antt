-- What is defined of events.
pub mod EventBounds
