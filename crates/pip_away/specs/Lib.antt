pub mod Blind
