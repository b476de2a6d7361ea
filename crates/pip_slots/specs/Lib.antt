pub mod Slots
pub mod Images
pub mod Machines
pub mod Limits
