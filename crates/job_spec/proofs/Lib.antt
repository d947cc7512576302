pub mod Faults
pub mod VertexLemmas
pub mod EdgeLemmas
pub mod Valid
pub mod FlatSteps
