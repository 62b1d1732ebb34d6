pub mod Module8
pub mod Calls
