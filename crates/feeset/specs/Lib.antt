pub mod Total
pub mod Scan
