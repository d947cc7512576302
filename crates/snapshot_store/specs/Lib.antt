pub mod Store
pub mod StoreLaws
pub mod Lists
pub mod Placed
pub mod Memory
pub mod MemoryLaws
pub mod Calls
pub mod FlakyStore
