-- The theorems on books, and the lemmas that they rest on.
pub mod Positions
pub mod Marks
pub mod LawfulFlows
pub mod Made
pub mod SourceRuns
pub mod Placed
pub mod Kept
pub mod NewFlow
pub mod FilingCases
pub mod Performed
pub mod Groups
pub mod FilingKeeps
