-- The definitions that the contracts cite, one concept a file.
pub mod Meaning
pub mod Masks
pub mod Faults
pub mod Answer
pub mod Flags
pub mod Scale
pub mod Joined
pub mod Pairs
pub mod Joining
pub mod Written
pub mod Copies
