pub mod Faults
pub mod Leaves
pub mod Answers
pub mod Cached
