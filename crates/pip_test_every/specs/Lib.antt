pub mod Asked
pub mod Prepared
pub mod Met
pub mod Counting
pub mod Rows
