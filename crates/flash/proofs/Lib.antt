pub mod GeometryLaws
pub mod LentLaws
pub mod LiesOnLaws
pub mod OperationLaws
pub mod PageLaws
pub mod RedoLaws
