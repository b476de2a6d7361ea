-- Lists of numbers, nodes and acts.
pub mod Members
pub mod Acts
