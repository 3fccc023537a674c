pub mod Tables
pub mod Sets
pub mod First
pub mod Tightening
pub mod Covering
pub mod Judgement
pub mod Trees
pub mod Laws
