pub mod DedupLemmas
