pub mod Limits
pub mod Pays
