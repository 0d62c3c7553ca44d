pub mod Named
pub mod Quotients
pub mod Single
pub mod Shown
pub mod Lines
