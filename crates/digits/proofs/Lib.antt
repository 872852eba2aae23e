pub mod HexLaws
pub mod NumberLaws
