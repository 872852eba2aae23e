pub mod ArgLaws
pub mod WordLaws
