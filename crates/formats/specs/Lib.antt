pub mod Batches
pub mod Groups
pub mod Lines
pub mod Reader
pub mod Refusals
