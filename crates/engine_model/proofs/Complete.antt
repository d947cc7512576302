-- Why a checkpoint that completes is the cut that its attempt has made.
pub mod Cuts
pub mod Reached
