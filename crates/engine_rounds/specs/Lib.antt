pub mod Idle
pub mod Turns
pub mod Works
