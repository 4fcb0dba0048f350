pub mod AggLemmas
pub mod BankLemmas
pub mod EventLemmas
pub mod FoldLemmas
pub mod LawLemmas
pub mod SweepLemmas
pub mod WindowLemmas
