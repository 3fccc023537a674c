pub mod Charts
pub mod PassLists
pub mod ShapeListLaws
pub mod ShapeLists
