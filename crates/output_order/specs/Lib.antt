pub mod Output
pub mod Rounds
pub mod Steps
