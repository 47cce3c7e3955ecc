-- The lemmas of the proofs.
pub mod Arrows
pub mod Within
pub mod Joins
pub mod FirstFitting
pub mod Ending
pub mod RunsAlong
pub mod Drawing
pub mod Answered
