-- Lists, and one tree
pub mod OnLists
pub mod Trees
-- What calls and events keep, and what they leave alone
pub mod Calls
pub mod Events
pub mod Locality
-- Frames: one node in them, and a whole tree
pub mod Nodes
pub mod Frames
-- Reading a tree off a memory
pub mod Audit
-- Texts of numbers
pub mod Texts
