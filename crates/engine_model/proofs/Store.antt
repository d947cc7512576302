-- What the snapshot store keeps, and what its parts spell.
pub mod Line
pub mod View
pub mod Put
pub mod Complete
pub mod Trigger
pub mod Formed
pub mod Logs
pub mod Part
pub mod Whole
pub mod Steps
pub mod Runs
