-- The definitions that the contracts cite.
pub mod Lines
pub mod Words
pub mod Number
pub mod Decimal
pub mod Halves
