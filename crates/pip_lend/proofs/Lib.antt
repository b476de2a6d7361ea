-- what changes where one node is written, or two
pub mod Caller
pub mod TwoNodes
-- the calls
pub mod MappedInChild
pub mod AddVAddr
pub mod RemoveVAddr
