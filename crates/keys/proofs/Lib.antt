pub mod OrderLaws
pub mod StdLaws
