pub mod Least
pub mod Vectors
pub mod Rays
pub mod Assembly
pub mod Frame
pub mod Tables
pub mod Parts
