pub mod Args
pub mod Spaces
pub mod Words
