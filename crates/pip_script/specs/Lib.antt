pub mod Phrases
pub mod Proper
pub mod Replies
pub mod Words
pub mod Held
pub mod Lines
pub mod Whole
