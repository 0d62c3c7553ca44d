pub mod Assembled
pub mod Forms
pub mod Once
pub mod Printed
pub mod Sampled
pub mod Sound
pub mod Variable
