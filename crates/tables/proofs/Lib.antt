-- The lemmas of the masks and tables.
pub mod Bools
pub mod Unions
pub mod Remainders
pub mod Nodes
pub mod Decoding
pub mod Upward
pub mod Turns
pub mod Marked
pub mod Roots
pub mod Answers
pub mod Clearing
pub mod Tables
