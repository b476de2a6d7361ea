mod Examples
pub mod Chains
pub mod Counting
pub mod Child
pub mod Seen
pub mod Lent
pub mod Tabled
pub mod Stored
pub mod Made
pub mod Linked
pub mod Reached
pub mod Steps
pub mod Opening
pub mod Meeting
pub mod Deleted
pub mod Whole
pub mod Working
