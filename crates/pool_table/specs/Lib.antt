pub mod Pool
pub mod Words
pub mod Ranges
pub mod Links
pub mod Changes
pub mod WellFormed
