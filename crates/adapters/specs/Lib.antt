pub mod Lifted
pub mod Pairs
pub mod LiftedLaws
pub mod PairLaws
