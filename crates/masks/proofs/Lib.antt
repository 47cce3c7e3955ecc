pub mod Bits
pub mod Operations
