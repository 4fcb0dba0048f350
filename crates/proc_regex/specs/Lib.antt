pub mod Pattern
pub mod Rewrite
pub mod Search
