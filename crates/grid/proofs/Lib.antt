pub mod PlaceLaws
pub mod CellLaws
pub mod Sizes
pub mod Meanings
pub mod RefusalLaws
pub mod HalfLaws
pub mod CountLaws
pub mod PlaceCount
