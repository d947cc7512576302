pub mod Plain
pub mod Offered
