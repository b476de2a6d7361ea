pub mod Asks
pub mod Counts
pub mod Soaked
pub mod LoadText
