mod Calling
mod Adding
pub mod Columns
pub mod EvaluationLaws
pub mod ExpandedCall
pub mod Expanding
pub mod Fitting
mod Framed
mod FreshLaws
mod Gathered
pub mod LengthLaws
mod Listed
pub mod Mapped
pub mod Meanings
pub mod OneFresh
pub mod OneLength
pub mod OneValue
mod Memoing
mod OwnLaws
pub mod Places
pub mod Quotients
mod Remembered
mod Room
mod ShapeLaws
pub mod Sizes
mod SparseLaws
mod Standing
pub mod SystemLaws
mod Tables
mod Wanted
mod Working
mod Writing
