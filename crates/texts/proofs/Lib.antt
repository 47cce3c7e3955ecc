pub mod Behind
pub mod Ahead
pub mod Shown
