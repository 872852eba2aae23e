pub mod Division
pub mod Published
pub mod Register
pub mod Tables
