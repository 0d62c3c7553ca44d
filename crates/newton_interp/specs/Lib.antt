pub mod Grid
pub mod GridPoints
pub mod Interpolation
pub mod Stage
