-- prepare: the chain of pages, and the child that can be given them
pub mod Chain
pub mod Preparing
-- collect: the child from which tables can be taken, and the chain that their pages become
pub mod Collecting
pub mod Links
