-- What the contracts of the signs speak of.
pub mod Names
pub mod Runs
pub mod Faults
pub mod Signs
pub mod Reader
pub mod Spelling
pub mod FirstFault
