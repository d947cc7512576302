pub mod Older
pub mod Readable
pub mod Rounds
