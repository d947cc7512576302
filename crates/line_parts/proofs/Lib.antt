mod Joining
mod Kept
pub mod Through
mod Runs
