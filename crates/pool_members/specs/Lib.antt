pub mod Members
pub mod Rows
pub mod Layout
pub mod Steps
