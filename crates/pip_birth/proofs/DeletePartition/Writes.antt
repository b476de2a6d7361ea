-- A child ends with all below it: one page after another, by words of the caller's first shadow; or its base alone.
pub mod Steps
pub mod Words
pub mod Pages
pub mod Freeing
pub mod Clearing
pub mod Whole
pub mod Base
pub mod Counting
