pub mod Products
pub mod Expansions
