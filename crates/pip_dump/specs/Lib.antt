pub mod Written
pub mod Walk
pub mod Tables
pub mod Groups
pub mod Lines
pub mod Totals
