pub mod Pairs
pub mod Remainders
pub mod Thiele
