pub mod Sets
pub mod Relations
pub mod Banks
pub mod Words
