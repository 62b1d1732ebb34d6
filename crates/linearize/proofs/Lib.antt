pub mod Order
pub mod Cases
pub mod Theorems
pub mod Few
