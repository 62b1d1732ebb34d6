pub mod Product
pub mod Quotient
