-- The definitions that the contracts cite, one concept a file.
pub mod Faults
pub mod Lines
pub mod Charts
pub mod Limits
pub mod Paths
pub mod Kept
pub mod Drawn
pub mod Answer
