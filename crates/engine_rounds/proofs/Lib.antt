pub mod Idling
pub mod Many
pub mod Waiting
pub mod Resting
pub mod Taking
pub mod Turning
pub mod One
