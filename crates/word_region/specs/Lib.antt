pub mod Board
pub mod Frame
pub mod Lending
pub mod Lent
pub mod Words
