-- The laws and theorems on terms, and the lemmas that they rest on.
pub mod Joining
pub mod Choosing
pub mod Chaining
pub mod Repeating
pub mod Passing
pub mod Testing
pub mod Among
pub mod Heads
pub mod Remainders
pub mod Numbers
pub mod Marks
pub mod PlaceRuns
