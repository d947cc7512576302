pub mod Along
pub mod LineRuns
pub mod LineCommits
pub mod Lines
pub mod LineJobs
