pub mod Buffered
pub mod Placed
pub mod Tables
