-- a tree in which a child's tables change
pub mod Kept
-- the calls
pub mod CountToMap
pub mod PrepareTable
pub mod CollectTable
