pub mod PageWords
pub mod SlotWrites
pub mod SlotReads
pub mod Links
pub mod Nodes
