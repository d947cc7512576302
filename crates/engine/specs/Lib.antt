pub mod Claimed
pub mod Readers
pub mod Reading
pub mod Rows
pub mod Running
