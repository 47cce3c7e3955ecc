pub mod Terms
pub mod Algebra
pub mod Laws
pub mod Places
pub mod Theorems
