pub mod Bare
pub mod Blocks
pub mod Slopes
pub mod Shapes
