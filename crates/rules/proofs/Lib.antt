-- Lemmas that the proofs of the rule reader share.
pub mod Peeling
pub mod Judging
pub mod Shapes
pub mod Refused
pub mod Stars
pub mod Fuel
pub mod Joins
pub mod Units
pub mod Actions
pub mod Whole
pub mod Decoding
pub mod GrantedTexts
