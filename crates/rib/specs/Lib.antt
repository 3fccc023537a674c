pub mod Rib
pub mod RibLaws
