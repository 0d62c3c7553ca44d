pub mod OneLesson
pub mod Places
pub mod PointLaws
pub mod Taking
pub mod Trying
