-- What the masks of a term's places say.
pub mod Decoded
pub mod Remainders
pub mod Masks
pub mod Parts
pub mod Tables
