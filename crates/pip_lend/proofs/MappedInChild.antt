-- mappedInChild, by its steps: docs/LAYERS.md, "How a kernel call is built".
pub mod Call
