pub mod Adding
pub mod Ended
pub mod Stock
pub mod Shelving
pub mod Gained
