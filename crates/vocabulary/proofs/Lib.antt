-- The lemmas of the proofs.
pub mod Asked
pub mod Masks
pub mod Joins
pub mod Pairing
