pub mod Places
pub mod Coefficients
pub mod Degrees
pub mod Division
pub mod Counting
pub mod Small
pub mod Products
