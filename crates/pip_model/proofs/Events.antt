-- Each event keeps a world sound, and what it keeps besides.
pub mod Reach
pub mod Soundness
pub mod Kept
pub mod Caching
pub mod Unseen
pub mod Outcomes
pub mod GiveBack
pub mod Saves
pub mod Working
