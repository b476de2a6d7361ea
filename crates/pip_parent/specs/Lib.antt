pub mod Wants
pub mod Seen
pub mod Pool
pub mod Built
pub mod Stages
pub mod Events
pub mod Contract
