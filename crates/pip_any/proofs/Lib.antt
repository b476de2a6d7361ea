pub mod Beginning
pub mod Naming
pub mod Searched
pub mod Doing
pub mod Choosing
pub mod Listed
pub mod Keeping
pub mod Testing
