pub mod CreatePartition
pub mod DeletePartition
