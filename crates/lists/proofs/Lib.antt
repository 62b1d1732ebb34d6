pub mod Bools
pub mod Numbers
pub mod Below
pub mod Ranges
pub mod Lists
pub mod Found
pub mod Once
