pub mod Selecting
pub mod Trying
