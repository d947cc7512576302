pub mod Counts
pub mod Rows
