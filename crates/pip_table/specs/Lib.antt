pub mod NextLeaf
pub mod NextWord
pub mod Table
