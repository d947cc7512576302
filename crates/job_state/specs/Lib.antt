pub mod Batch
pub mod AtOnce
pub mod Sending
pub mod Standing
pub mod Held
pub mod Kinds
pub mod Inside
