pub mod Narrow
pub mod Rate
