pub mod Channel
pub mod Edges
