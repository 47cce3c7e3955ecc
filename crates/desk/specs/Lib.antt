pub mod Answering
pub mod Joining
pub mod Performing
pub mod Replies
pub mod Texts
