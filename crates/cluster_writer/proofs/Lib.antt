pub mod Rate
pub mod Texts
