-- one node: its tables by level, its rows, its tables by directory index
pub mod Nodes
pub mod Levels
pub mod Rows
pub mod Tables
-- the list in which it notes its tables
pub mod Lists
