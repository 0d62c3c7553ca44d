pub mod Attempt
pub mod Grid
pub mod Start
pub mod Vanishing
pub mod Covering
