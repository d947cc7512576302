pub use Rattle.job_channels.specs.Channel
pub mod Expanded
pub mod Tables
pub mod Inside
pub mod PlainGraph
pub mod Order
pub mod Spelling
pub mod Expansion
-- Runs of channels that take the lanes in turn.
pub mod Runs
