pub mod Arguments
mod Built
mod Cuts
mod Fronts
mod Lists
pub mod Machine
mod Parsed
mod Places
mod Polynomials
mod Printing
mod Quotients
mod ReadBack
mod Terms
mod Texts
pub mod Trees
pub mod Unique
mod Variables
mod Written
