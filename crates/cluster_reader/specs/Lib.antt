pub mod Lines
pub mod Reading
pub mod Calls
pub mod Steps
