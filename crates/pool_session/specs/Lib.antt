pub mod Session
pub mod Answers
pub mod Program
pub mod Memory
