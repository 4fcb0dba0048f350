pub mod Dedup
pub mod Repeats
