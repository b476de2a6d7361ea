-- Each call on memory keeps the tree sound
pub mod Create
pub mod Delete
pub mod Prepare
pub mod Collect
pub mod Add
pub mod Remove
-- What is so of every call, and a value of it for each
pub mod Laws
pub mod CreateLaws
pub mod DeleteLaws
pub mod CountLaws
pub mod PrepareLaws
pub mod CollectLaws
pub mod AddLaws
pub mod RemoveLaws
pub mod FindLaws
pub mod Table
