pub mod Counted
pub mod Inputs
pub mod Table
