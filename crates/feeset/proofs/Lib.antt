pub mod Exact
pub mod Scan
