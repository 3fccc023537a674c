pub mod BlockLaws
pub mod Products
pub mod SlopeLaws
