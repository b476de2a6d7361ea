-- Texts of numbers, read back.
pub mod Numbers
