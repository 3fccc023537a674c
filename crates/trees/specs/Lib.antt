pub mod Nodes
pub mod Values
pub mod Sets
pub mod Faults
pub mod Checks
pub mod Texts
