pub mod Kind
pub mod Due
pub mod Group
