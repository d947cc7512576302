-- What the transactions keep, and what each call of them leaves.
pub mod Lists
pub mod LastPending
pub mod Places
pub mod Shares
pub mod Sinks
pub mod Calls
pub mod Append
pub mod Copy
pub mod Commit
pub mod Rows
pub mod Restart
pub mod Settle
pub mod Devices
pub mod Ordered
