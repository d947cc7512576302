pub mod Line
pub mod PlainLaws
pub mod Lines
pub mod Laws
