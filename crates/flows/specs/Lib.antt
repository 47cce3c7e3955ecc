-- The definitions that the contracts cite, one concept a file.
pub mod Counted
pub mod Written
