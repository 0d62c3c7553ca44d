pub mod Findings
pub mod Outputs
pub mod Printing
pub mod Results
pub mod Texts
pub mod Methods
