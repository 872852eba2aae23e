pub mod Allocations
pub mod Merges
pub mod Readings
pub mod Several
pub mod Telling
pub mod Writings
