pub mod Sources
pub mod Ledgers
pub mod Joining
pub mod Calls
pub mod Histories
pub mod Theorems
