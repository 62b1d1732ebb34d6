pub mod Order
pub mod Packed
pub mod Laws
