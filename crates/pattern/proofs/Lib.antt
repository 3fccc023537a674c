pub mod ExactLaws
pub mod BoxLaws
pub mod BankLaws
pub mod Borrowed
