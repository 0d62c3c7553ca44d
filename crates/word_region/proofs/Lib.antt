pub mod Boards
pub mod Frames
mod Lending
pub mod Written
