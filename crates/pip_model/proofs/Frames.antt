-- Trees and the frames that lay them out.
pub mod ReadBack
pub mod Twins
pub mod Same
pub mod Alike
pub mod Laid
pub mod Lays
pub mod Shadows
pub mod ChangeRows
pub mod Midway
pub mod Stored
pub mod Saved
pub mod Booting
pub mod ControlLays
pub mod Descriptors
