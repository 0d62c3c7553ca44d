pub mod Joined
pub mod Lifting
pub mod Parts
pub mod Recovery
