pub mod Makings
pub mod Carrying
pub mod Stages
pub mod Working
