pub mod LengthRules
pub mod Matrices
pub mod Pieces
pub mod Plain
pub mod Products
