pub mod Mutual
pub mod Gaps
pub mod Walks
pub mod Walking
pub mod Surveyed
pub mod Ends
