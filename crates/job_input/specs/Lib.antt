pub mod Judged
pub mod Lines
pub mod Plain
pub mod Telling
