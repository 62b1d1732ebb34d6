pub mod Links
pub mod Written
pub mod Limits
