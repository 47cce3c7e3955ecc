pub mod Additions
pub mod Found
