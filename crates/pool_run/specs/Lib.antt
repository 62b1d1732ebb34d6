pub mod Reads
pub mod Standing
pub mod Stops
