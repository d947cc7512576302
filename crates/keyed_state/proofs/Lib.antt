pub mod Compared
pub mod Exchanged
pub mod Laid
pub mod Several
