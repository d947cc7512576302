pub mod Calls
pub mod Claims
pub mod CoreState
pub mod Desks
pub mod Replies
pub mod Runs
pub mod Steps
pub mod Unclaimed
