-- The lemmas behind the answers of a book.
pub mod TextFlows
pub mod TextRuns
pub mod Answering
