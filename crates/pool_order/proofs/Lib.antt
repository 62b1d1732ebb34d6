pub mod Keys
pub mod Filling
pub mod Packing
pub mod Slots
pub mod Distinct
pub mod Theorems
