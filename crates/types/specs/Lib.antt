pub mod Answers
pub mod Build
pub mod Bytes
pub mod Checks
pub mod Histories
pub mod PageIDs
pub mod Refusals
