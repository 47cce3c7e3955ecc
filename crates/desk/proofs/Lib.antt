-- The lemmas of the desk.
pub mod FirstRefusal
