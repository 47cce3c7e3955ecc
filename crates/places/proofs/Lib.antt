-- The lemmas of a rule's flow.
pub mod Upward
pub mod Prepared
pub mod GrantedTerms
pub mod Told
