pub mod Memory
pub mod Opening
pub mod Rights
pub mod Status
pub mod Words
