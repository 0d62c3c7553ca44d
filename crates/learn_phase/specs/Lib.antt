pub mod Answers
pub mod LearnedSets
pub mod Points
