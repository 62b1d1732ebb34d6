pub mod Groups
pub mod Ordered
pub mod Parts
pub mod Scan
pub mod Theorems
