pub mod DueLemmas
pub mod FinalLawLemmas
pub mod FinalLemmas
pub mod KeyLemmas
pub mod MergeLawLemmas
pub mod MergeLemmas
