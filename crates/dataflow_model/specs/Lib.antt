pub mod Graph
pub mod Machine
pub mod Laws
