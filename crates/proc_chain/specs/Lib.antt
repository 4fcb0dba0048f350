pub mod Chain
pub mod Seen
pub mod Stage
pub mod Steps
