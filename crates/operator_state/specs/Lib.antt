pub mod Handed
pub mod Held
pub mod Operating
pub mod Spelled
