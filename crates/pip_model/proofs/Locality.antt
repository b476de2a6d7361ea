-- What partitions leave of one another, and what their calls depend on.
pub mod Agree
pub mod Reads
pub mod Leaves
pub mod OneEvent
pub mod Runs
