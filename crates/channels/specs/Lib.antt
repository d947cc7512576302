pub mod Channel
pub mod Items
pub mod Queues
