pub mod Stands
pub mod PlainReads
pub mod PlainWorks
pub mod PlainBatches
pub mod PlainCopies
pub mod PlainCheckpoints
pub mod PlainCommits
pub mod PlainReached
