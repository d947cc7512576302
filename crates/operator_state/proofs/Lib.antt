pub mod Copying
pub mod Handing
