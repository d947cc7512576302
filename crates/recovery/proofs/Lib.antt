pub mod Taking
pub mod Readable
pub mod Entries
pub mod Starting
pub mod Channels
