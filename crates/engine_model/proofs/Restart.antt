-- What a restart makes of the parts and the transactions.
pub mod Rows
pub mod Starts
pub mod Logs
pub mod Sinks
pub mod Held
pub mod Goes
pub mod Base
pub mod Steps
pub mod Cut
pub mod Parts
