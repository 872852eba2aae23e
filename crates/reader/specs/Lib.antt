pub mod Answers
pub mod Calls
pub mod Checks
pub mod Finds
pub mod Moves
pub mod States
