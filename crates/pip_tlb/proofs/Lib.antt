pub mod Kept
pub mod Used
