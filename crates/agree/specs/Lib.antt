pub mod Courses
pub mod Panel
pub mod Quarters
