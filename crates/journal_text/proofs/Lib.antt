pub mod MetricLemmas
pub mod JournalLemmas
pub mod KnownLemmas
pub mod SoFarLemmas
