-- Lemmas that several proofs share, and the theorems of the sign reader.
pub mod Bytes
pub mod Words
pub mod Steps
pub mod Reading
pub mod Spelled
pub mod Verdict
pub mod FirstFault
pub mod Theorems
