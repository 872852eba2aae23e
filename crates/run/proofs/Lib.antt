pub mod AnswerLaws
pub mod BoundLaws
pub mod FitLaws
pub mod ItemLaws
pub mod RecordsHold
pub mod SearchLaws
