pub mod DrawnKinds
pub mod Sums
pub mod Made
pub mod LoadText
