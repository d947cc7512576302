pub mod Placed
pub mod Noted
pub mod Held
pub mod Kept
pub mod Listed
