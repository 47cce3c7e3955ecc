pub mod Faults
pub mod Held
pub mod Naming
pub mod Spelling
pub mod Laid
