-- One tree: which partition is above which, which holds what, and what a change of nodes keeps.
pub mod Ancestors
pub mod Free
pub mod Ancestry
pub mod Lookup
pub mod RowLookup
pub mod Children
pub mod Chains
pub mod Depth
pub mod Changes
pub mod ChangeNode
pub mod Control
pub mod Numbers
pub mod Boot
pub mod Siblings
pub mod Walks
