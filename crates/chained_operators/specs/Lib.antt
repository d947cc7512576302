pub mod Exact
pub mod Chains
pub mod ChainLaws
