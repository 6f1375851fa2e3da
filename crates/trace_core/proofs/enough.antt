-- How many frames are enough: once a request was refused, so many were the parent's own, or asked for.
pub mod PlainPools
pub mod FullSupplies
pub mod FrameReach
pub mod EventReach
pub mod ParentAlone
