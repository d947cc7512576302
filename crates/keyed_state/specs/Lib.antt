pub mod Comparing
pub mod KeyedMap
pub mod Lending
pub mod Overlay
pub mod Putting
