pub mod DirWord
pub mod Leaf
pub mod Sh1
pub mod Sh2
