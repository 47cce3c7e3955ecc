pub mod Derivations
pub mod Faults
pub mod Reading
pub mod Tests
pub mod Theorems
pub mod Worked
