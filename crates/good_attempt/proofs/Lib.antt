mod Columns
pub mod OneSampling
pub mod Trying
