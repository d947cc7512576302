pub mod Offered
pub mod Made
pub mod Lookups
pub mod Queues
