pub mod Programs
pub mod Begins
pub mod AnyProgram
pub mod Hostile
pub mod Passing
