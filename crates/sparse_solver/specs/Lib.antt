pub mod Order
pub mod Packed
pub mod Plan
pub mod Steps
pub mod Told
