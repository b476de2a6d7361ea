pub mod Progress
pub mod Raising
pub mod Resting
