pub mod Chunks
pub mod Sorted
pub mod Numbers
pub mod Steps
