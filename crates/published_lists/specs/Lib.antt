pub mod Beginnings
pub mod Rows
pub mod Editions
pub mod Holding
pub mod Operations
pub mod Rule
