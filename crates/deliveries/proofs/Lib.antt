pub mod Delivered
pub mod Runs
pub mod Masks
