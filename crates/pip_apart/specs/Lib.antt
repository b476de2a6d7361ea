pub mod Company
pub mod Kept
pub mod Alone
pub mod Machines
pub mod Tops
pub mod Found
pub mod Searches
pub mod Texts
