pub mod Advancing
pub mod Awaiting
pub mod Resting
pub mod Bringing
pub mod Settled
pub mod Whole
