pub mod Parents
pub mod Closure
pub mod Theorems
