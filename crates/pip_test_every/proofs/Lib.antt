pub mod Booted
pub mod Events
pub mod Worlds
pub mod Laws
mod Matched
