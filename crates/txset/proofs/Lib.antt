pub mod Bits
pub mod Words
pub mod Sets
pub mod Walk
pub mod Joins
pub mod Theorems
