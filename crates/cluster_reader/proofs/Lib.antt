pub mod Places
pub mod Named
pub mod Reading
pub mod Lengths
pub mod Full
pub mod Theorems
