pub mod Coefficients
pub mod Univariate
