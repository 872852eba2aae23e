pub mod AnswerLaws
pub mod BuildLaws
pub mod BytesLaws
pub mod CheckLaws
pub mod HistoryLaws
pub mod PageIDLaws
pub mod TestLaws
