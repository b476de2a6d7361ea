-- createPartition, by its steps: docs/LAYERS.md, "How a kernel call is built".
pub mod Tests
pub mod Writes
pub mod Tree
pub mod Call
