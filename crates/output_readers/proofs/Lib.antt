pub mod Knowing
pub mod Opening
pub mod Writing
