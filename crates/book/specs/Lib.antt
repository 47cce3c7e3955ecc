-- What the contracts of a book speak of.
pub mod Books
pub mod Allowing
pub mod TextRuns
pub mod Comparing
pub mod Checking
pub mod Judging
