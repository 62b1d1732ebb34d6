pub mod Checks
pub mod Post
pub mod Theorems
