pub mod Carried
pub mod Due
pub mod Keys
pub mod Left
pub mod Places
pub mod Rows
pub mod Tasks
