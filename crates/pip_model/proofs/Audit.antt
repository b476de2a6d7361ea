-- Reading a tree off a memory, and the law that an audit rests on.
pub mod Over
pub mod NodeRead
pub mod NodeBack
pub mod VisitsBack
pub mod WalkBack
pub mod SameTree
pub mod TreeBack
pub mod PartTests
pub mod AuditLaw
pub mod Walking
