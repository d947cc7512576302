pub mod Partitions
pub mod Rows
pub mod MemoryLog
pub mod Calls
pub mod FlakyLog
