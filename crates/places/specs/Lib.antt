-- What the contracts of a rule's flow speak of.
pub mod Upward
pub mod Meaning
pub mod Reading
