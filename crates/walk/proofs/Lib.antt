-- The lemmas that the walk, the run that it shows and the check rest on.
pub mod Found
pub mod Leading
pub mod Rows
pub mod Going
pub mod Alike
pub mod Backward
pub mod Telling
pub mod Examined
pub mod Promised
