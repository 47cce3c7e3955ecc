-- The lemmas that the proofs share.
pub mod LineLaws
pub mod WordLaws
pub mod NumberLaws
pub mod DecimalLaws
pub mod HalfLaws
