pub mod MetricText
pub mod SetupText
pub mod JournalText
pub mod Known
pub mod SoFar
