-- The worked cases, and what they are stated with.
pub mod Sheets
pub mod Texts
pub mod Charts
pub mod Tables
pub mod Worked
