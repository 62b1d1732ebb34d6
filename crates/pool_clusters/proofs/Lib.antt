pub mod Reached
pub mod Sums
pub mod Linked
pub mod Words
pub mod Floods
pub mod Gathering
pub mod Limits
pub mod Theorems
