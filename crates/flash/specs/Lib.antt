pub mod Geometry
pub mod Operations
pub mod Covers
