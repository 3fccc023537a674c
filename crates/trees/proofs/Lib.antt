pub mod ValueLaws
pub mod TreeLaws
pub mod ParentLaws
pub mod SearchLaws
pub mod CheckLaws
