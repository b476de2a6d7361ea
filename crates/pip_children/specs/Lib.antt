pub mod Children
pub mod Dues
pub mod Loading
pub mod Pacing
