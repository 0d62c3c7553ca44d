pub mod Attempts
pub mod Kept
pub mod Tried
