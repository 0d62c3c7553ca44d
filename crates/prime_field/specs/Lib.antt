pub mod Inverses
pub mod Modulus
pub mod Product
pub mod Residue
pub mod Sequence
pub mod Sum
