pub mod Lending
pub mod Ownership
pub mod RawBounds
pub mod VecLending
