pub mod Answers
pub mod Lines
pub mod Steps
pub mod Stops
pub mod Theorems
