pub mod Picks
pub mod PickLaws
