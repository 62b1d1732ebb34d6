pub mod Only
pub mod Members
pub mod Rows
pub mod Stored
pub mod Ranks
pub mod Listed
pub mod Laid
pub mod Laying
