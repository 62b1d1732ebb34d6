pub mod Reading
pub mod Asking
