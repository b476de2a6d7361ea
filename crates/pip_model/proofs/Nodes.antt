-- One node in frames.
pub mod Roles
pub mod Reads
pub mod Writes
