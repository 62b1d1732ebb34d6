pub mod Decimals
pub mod Digits
pub mod Places
pub mod Append
pub mod Numbers
pub mod HexText
pub mod Theorems
