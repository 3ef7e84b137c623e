pub mod Name
pub mod Table
pub mod Field
pub mod Judged
pub mod Made
pub mod Code
