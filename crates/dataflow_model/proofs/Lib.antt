pub mod Places
pub mod Growth
pub mod Runs
