pub mod Numerals
pub mod Writing
pub mod Places
pub mod Rooms
pub mod Hex
