pub mod SearchLaws
pub mod PassLaws
