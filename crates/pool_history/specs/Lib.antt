pub mod History
pub mod Standing
pub mod Replies
pub mod Since
pub mod Kin
