pub mod Graph
pub mod Closed
pub mod Steps
