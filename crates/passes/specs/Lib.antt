pub mod Moves
pub mod Pass
pub mod Summary
