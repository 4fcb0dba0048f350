pub mod Asked
pub mod Folds
pub mod Kept
pub mod Laws
pub mod StatsView
pub mod Summary
