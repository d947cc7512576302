pub mod Changed
pub mod Places
pub mod Walked
