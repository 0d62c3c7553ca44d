pub mod Moduli
pub mod Residues
pub mod Units
pub mod Sums
pub mod Euclid
pub mod Powers
pub mod BatchLemmas
