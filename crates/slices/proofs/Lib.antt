pub mod FieldLaws
pub mod OverLaws
pub mod PartLaws
pub mod PatchLaws
