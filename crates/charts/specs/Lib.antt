pub mod Charts
pub mod Judging
pub mod Relations
