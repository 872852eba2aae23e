pub mod Answers
pub mod Bounds
pub mod Items
pub mod Kinds
pub mod RecordTable
pub mod Records
pub mod Search
