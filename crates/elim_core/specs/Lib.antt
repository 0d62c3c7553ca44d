pub mod Kept
pub mod Layout
pub mod Rows
pub mod Multiples
pub mod Solution
pub mod Solver
pub mod Solved
pub mod Sparse
