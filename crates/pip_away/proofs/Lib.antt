pub mod Reading
pub mod Above
pub mod Pending
pub mod Walked
pub mod Calling
pub mod OnMachines
pub mod Turning
