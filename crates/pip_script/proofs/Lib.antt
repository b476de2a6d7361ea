pub mod Digits
pub mod FirstWords
pub mod Phrases
pub mod Processors
pub mod TextWords
pub mod WholeWords
pub mod WordDigits
-- What is held, as lists of bytes
pub mod Buffers
-- The lines of bytes
pub mod Newlines
pub mod LinesOf
pub mod Taking
pub mod Reading
pub mod Since
