pub mod Sameness
pub mod Counting
