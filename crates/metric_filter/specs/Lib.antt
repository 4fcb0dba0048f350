pub mod Filter
pub mod Kept
