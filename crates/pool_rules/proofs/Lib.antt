pub mod Finds
pub mod Listed
pub mod Pools
pub mod Tables
pub mod Sound
pub mod Outcomes
