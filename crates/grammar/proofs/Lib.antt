-- The theorems of the reader, and the lemmas that they rest on.
pub mod Results
pub mod States
pub mod Signs
pub mod Tested
pub mod Judging
pub mod Sound
pub mod Granted
pub mod Fuel
pub mod Complete
pub mod Rules
pub mod Numbering
pub mod Sizes
