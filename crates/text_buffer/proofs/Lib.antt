pub mod Placing
pub mod DigitLemmas
