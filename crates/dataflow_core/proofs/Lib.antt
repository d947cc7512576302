pub mod Finishing
mod Leaving
pub mod Offering
pub mod Preserving
pub mod Running
pub mod Unclaiming
