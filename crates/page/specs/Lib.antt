pub mod Answers
pub mod Checks
pub mod Chunks
pub mod Headers
pub mod Walks
pub mod WalkTable
