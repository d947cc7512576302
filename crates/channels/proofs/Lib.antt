pub mod First
pub mod Queues
