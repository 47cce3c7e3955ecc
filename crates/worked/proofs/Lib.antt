-- The worked cases, computed.
pub mod Worked
