pub mod Runs
pub mod Flows
pub mod Pairs
pub mod Walks
pub mod Tracing
pub mod Rooms
pub mod Checks
pub mod Theorems
