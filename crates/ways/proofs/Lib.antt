pub mod Ways
pub mod Cycles
