pub mod Linearize
pub mod Steps
pub mod Cases
