pub mod Forms
pub mod Leaving
