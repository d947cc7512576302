pub mod Job
pub mod Reading
pub mod Inside
