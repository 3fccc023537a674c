pub mod Courses
pub mod PanelLaws
