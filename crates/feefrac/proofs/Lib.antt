pub mod Signed
pub mod Order
pub mod Higher
pub mod Lists
pub mod Exact
