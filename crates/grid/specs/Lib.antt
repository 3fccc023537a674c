pub mod Axes
pub mod Places
pub mod Cells
pub mod Counts
pub mod Laws
pub mod Refusals
pub mod Texts
