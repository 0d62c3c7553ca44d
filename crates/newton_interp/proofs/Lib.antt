pub mod Columns
pub mod GridLaw
pub mod Monomials
pub mod Points
pub mod Words
pub mod WrittenAxes
