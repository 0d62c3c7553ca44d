pub mod Form
pub mod Found
pub mod Functions
pub mod Headline
