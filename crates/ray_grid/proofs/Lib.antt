pub mod Directions
pub mod Forcing
pub mod RayLemmas
pub mod Vanishing
pub mod Counted
