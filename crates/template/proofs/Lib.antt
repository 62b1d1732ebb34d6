pub mod Collecting
pub mod Asking
pub mod Trying
pub mod Going
pub mod Answers
