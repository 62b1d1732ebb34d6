pub mod Arrays
pub mod Making
pub mod Sizes
pub mod Steps
pub mod Theorems
