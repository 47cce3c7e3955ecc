-- What the contracts of the rule reader speak of.
pub mod Nodes
pub mod Machines
pub mod Aheads
pub mod Readers
pub mod Builders
pub mod Rules
pub mod FaultySigns
pub mod Granted
